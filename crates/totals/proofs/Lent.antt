-- Steps of a walk over code that is lent the totals, or lends them.
--     says_both    a goal P ∗ (⌜φ⌝ ∗ ⌜ψ⌝): φ and ψ are shown, and P is left
--     held         the operand is the local whose cell is entry n
--     freed        the local whose cell is entry n is freed
--     updates      the lent totals are read whole, an update is called on them and an answer, and what it gives is stored whole
--     lends        a local that holds totals is lent, for a lifetime that is made for the loan
--     regains      that lifetime is ended, and the local holds the last totals
use mathlib.Core.Path.{◌≡◌, refl}
use Prim.Native.Nat.{ℕ, zero, suc}
use mathlib.Core.List.{List, [], ◌∷◌}
use seplogic.Ra.Ura.{Ura}
use base.Fraction.{full_share}
use mir.Syntax.{Callee, Lifetime, Ty, Body as Code, place, deref, copy, rv_opd, assign, call, seq}
use mir.Val.{Val, vptr}
use base.Logic.{SProp, ent, emp, sep, assoc∗, id⊢}
use base.Fml.{GName, Lft, Share, ftrue, fsep, flft, flent, fres, fobs, fauth, fbor, fobor, fat, froom, fdies}
use prog.Wp.{Heap, Env, Calls, Loops, spot_of}
use types.Logic.{Logic}
use contract.Monad.{fact}
use types.Kit.{Item, ‵, raw, some, later, ◌⊛◌, ⋆, Seq, Step, step, Go, !, Goal, Post, prop, runs, frees, Soaks, nth, del}
use types.Kit.{◌$◌, ◌∵◌, qed, move, drop, use1, use2, use3, split, join, pick, fsplit, fjoin, fpick, fpack, suffices, frame, rewrite, await, done}
use types.Tokens.{lft_new, lft_end}
use types.Run.{Opd, load, from, stop, hop, look, look_raw, init, store_raw, of_opd, and_then, no_more, assigns, land, forget, free1}
use sound.WpLaws.{FmC}
use types.SemTy.{Body}
use denote.RattleType.{RattleType}
use denote.Laws.{Is, Typed, Makes, shows}
use denote.Memory.{mem, cell_at, part_of}
use denote.Ref.{MutRef}
use denote.Lend.{lends_ref, ref_back}
use denote.Signature.{plain}
use denote.Exit.{yes}
use denote.Steps.{opens, closes, owned, peeks, heard, nothing}
use denote.Struct.Steps.{spelt}
use denote.Struct.Laws as LL
use denote.Triple.Statement.{Contract, Triple}
use denote.Triple.Spec.{triple_of, exits}
use denote.Triple.Clauses.{Ended, Lasts, lasts}
use denote.Triple.Call.{calls_at}
use denote.Triple.Walked.{says}
use Rattle.tally.specs.declared.Totals.{Totals}
use Rattle.tally.specs.Counts.{Tally, after_tally}
use Rattle.tally.specs.contracts.Totals as T
use Rattle.tally.proofs.Totals.TheLaws as T'

-- the machine values of totals, and that such are of their type
abbrev pub val : Totals → Val
val = LL.val T.the_type T'.the_laws

abbrev pub vals : Totals → List Val
vals = LL.vals T.the_type T'.the_laws

pub totals_typed : {M : Type 1} {𝓤 : Ura M} (𝓛 : Logic 𝓤) (h : Totals) (vs : List Val)
    → Is T.the_row h vs → Typed (T.the_row).mir vs
totals_typed {M} {𝓤} 𝓛 = (LL.lawful T.the_type T'.the_laws 𝓛).typed

module _ {M : Type 1} {𝓤 : Ura M} {𝓛 : Logic 𝓤} {K : Type 0} {Γ : List (Item 𝓤)} where
  open 𝓛 use {H}

  pub says_both : K → {φ ψ : Type 0} {P : SProp 𝓤} → φ → ψ → Step K 𝓛 Γ (prop P) Γ (prop (sep 𝓤 P (sep 𝓤 (fact 𝓤 φ) (fact 𝓤 ψ))))
  says_both t {φ} {ψ} {P} x y =
      step (λ s. suffices t (sep 𝓤 (sep 𝓤 P (fact 𝓤 φ)) (fact 𝓤 ψ)) (assoc∗ 𝓤 P (fact 𝓤 φ) (fact 𝓤 ψ)) $ says t y $ says t x $ s)

  -- the borrow of the totals is opened, and they are written out in their machine values
  opened : {G : Goal 𝓤 H} → K → Soaks G → {κ : Lft} {q : Share} (h : Totals) {γ : GName} (b o : ℕ)
      → (Is T.the_row h (vals h)
      → Seq K 𝓛 (‵ (cell_at full_share (T.the_row).mir (vals h) b o) ∷ ‵ ((T.the_row).own_val h (vals h))
      ∷ ‵ (fobor κ q (Body (mem T.the_row) b o γ))
      ∷ ‵ (fobs γ ((T.the_row).coded.code h)) ∷ ‵ (fauth γ ((T.the_row).coded.code h)) ∷ Γ) G)
      → Seq K 𝓛 (‵ (fobs γ ((T.the_row).coded.code h)) ∷ ‵ (fbor κ (Body (mem T.the_row) b o γ)) ∷ ‵ (flft κ q) ∷ Γ) G
  opened t z h b o k =
      opens t z T.the_row {h = h} b o (λ vs.
      spelt t T.the_row (Is T.the_row) (shows 𝓛 T.the_row) vals (LL.tells T.the_type T'.the_laws) full_share h vs b o $
      move t (1 ∷ []) $ peeks t T.the_row (Is T.the_row) (shows 𝓛 T.the_row) h (vals h) (λ is. move t (1 ∷ 0 ∷ []) $ k is))

  pub lends : {G : Goal 𝓤 H} → K → Soaks G → (ℓ : Lifetime) (h : Totals) (b : ℕ)
      → ((α : ℕ) (γ : GName)
      → Seq K 𝓛 (‵ (flft (α ∷ []) full_share)
      ∷ ‵ ((MutRef ℓ (α ∷ []) T.the_row).own_val (record { ref_ptr = (b, zero); ghost_name = γ; now = h }) (vptr b zero ∷ []))
      ∷ ‵ (flent (α ∷ []) (Body (mem T.the_row) b zero γ)) ∷ Γ) G)
      → Seq K 𝓛 (‵ (fat full_share T'.mir b zero (val h)) ∷ ‵ ((T.the_row).own_val h (vals h)) ∷ Γ) G
  unfolding part_of
  lends t z ℓ h b k =
      use1 𝓛 (‵ (cell_at full_share (T.the_row).mir (vals h) b zero)) (𝓛.laws.at_raw full_share T'.mir b zero (val h)) $
      fjoin t $ fpack t (List Val) (λ us. fsep (cell_at full_share (T.the_row).mir us b zero) ((T.the_row).own_val h us)) (vals h) $
      lft_new t z (λ α. move t (1 ∷ []) $
      use1 𝓛 (later (some (λ (γ : GName).
      ‵ ((MutRef ℓ (α ∷ []) T.the_row).own_val (record { ref_ptr = (b, zero); ghost_name = γ; now = h }) (vptr b zero ∷ []))
      ⊛ ‵ (flent (α ∷ []) (Body (mem T.the_row) b zero γ))))) (lends_ref 𝓛 T.the_row ℓ (α ∷ []) h b zero) $
      await t z $ pick t (λ γ. split t $ move t (2 ∷ 0 ∷ 1 ∷ []) $ k α γ))

  pub regains : {G : Goal 𝓤 H} → K → Soaks G → (h : Totals) (b : ℕ) {α : ℕ} {γ : GName}
      → (Is T.the_row h (vals h) → Seq K 𝓛 (‵ (fat full_share T'.mir b zero (val h)) ∷ Γ) G)
      → Seq K 𝓛 (‵ (flft (α ∷ []) full_share) ∷ ‵ (flent (α ∷ []) (Body (mem T.the_row) b zero γ)) ∷ ‵ (fres γ ((T.the_row).coded.code h)) ∷ Γ) G
  unfolding part_of
  regains t z h b {α} {γ} k =
      lft_end t z $ use3 𝓛 (later (‵ ((mem T.the_row).own_at h b zero))) (ref_back 𝓛 T.the_row (α ∷ []) γ h b zero) $ await t z $
      fpick t (λ vs. fsplit t $
      spelt t T.the_row (Is T.the_row) (shows 𝓛 T.the_row) vals (LL.tells T.the_type T'.the_laws) full_share h vs b zero $
      move t (1 ∷ []) $ peeks t T.the_row (Is T.the_row) (shows 𝓛 T.the_row) h (vals h) (λ is. drop t $
      use1 𝓛 (‵ (fat full_share T'.mir b zero (val h))) (𝓛.laws.raw_at full_share T'.mir b zero (val h)) $ k is))

  pub held : {E : Env 𝓤 H} → K → (n : ℕ) {i : ℕ} {q : Share} {v : Val}
      → nth 𝓛 n Γ ≡ ‵ (fat q (spot_of 𝓤 H E i).0 (spot_of 𝓤 H E i).1 (spot_of 𝓤 H E i).2 v) → Opd K 𝓛 Γ E (copy (place i [])) v
  held t n e = load t (from t (stop t)) (look t n e)

  pub freed : K → (n : ℕ) {τ : Ty} {b : ℕ} {v : Val} {E : Env 𝓤 H} {g : Goal 𝓤 H}
      → nth 𝓛 n Γ ≡ ‵ (fat full_share τ b zero v) → nth 𝓛 n (del 𝓛 n Γ) ≡ ‵ (fdies τ b)
      → Step K 𝓛 (del 𝓛 n (del 𝓛 n Γ)) (frees E g) Γ (frees ((τ, b) ∷ E) g)
  freed t n {τ} {b} cell dies =
      step (λ s. move t (n ∷ []) $ forget t 0 cell $ move t (suc n ∷ []) $
      rewrite t 0 (λ (i : Item 𝓤). i) dies refl $ move t (1 ∷ 0 ∷ []) $ free1 t $ s)

-- ---- an update: totals and an answer by value, and the totals after it
abbrev update : RattleType → Ended
update R = record {
  signature = record { lifetimes = 0; outlives = []; params = plain (λ _. T.the_row) ∷ plain (λ _. R) ∷ []; result = plain (λ _. T.the_row) };
  kept = (yes, (yes, tt));
}

module _ {M : Type 1} {𝓤 : Ura M} (𝓛 : Logic 𝓤) (R : RattleType) (after : Totals → R.Denot → Totals) where
  abbrev pub Update : Contract 𝓤
  Update = triple_of 𝓛 (update R).signature (λ κs a. record {
    ghost = Unit {0};
    requires = λ _. emp 𝓤;
    ensures = λ _ t. exits 𝓛 (update R).signature (update R).kept κs a (λ _. fact 𝓤 (t ≡ after a.0 a.1.0));
  })

  abbrev asked : Totals → R.Denot → Val → Update.Ghost
  asked h r w = ((tt, tt, tt, (h, (r, tt)), (vals h, (w ∷ [], tt))), tt)

  goes : (h : Totals) (r : R.Denot) (w : Val)
      → ent 𝓤 (⋆ 𝓛 (‵ ((T.the_row).own_val h (vals h)) ∷ ‵ (R.own_val r (w ∷ [])) ∷ [])) (Update.pre (asked h r w))
  goes h r w =
      qed 𝓛 (‵ ((T.the_row).own_val h (vals h)) ∷ ‵ (R.own_val r (w ∷ [])) ∷ []) ∵ nothing ! $ move ! (2 ∷ 0 ∷ []) $ join ! $
      move ! (1 ∷ 0 ∷ []) $ join ! $ nothing ! $ join ! $ frame ! $ done !

-- one that counts an answer
abbrev pub tallied : {A : Type 0} → (A → Tally) → Totals → A → Totals
tallied tally t r = after_tally t (tally r)

-- room for a local, and its cell
module _ {M : Type 1} (𝓤 : Ura M) (H : Heap 𝓤) (E : Env 𝓤 H) (i : ℕ) where
  abbrev room : Item 𝓤
  room = ‵ (froom (spot_of 𝓤 H E i).0 (spot_of 𝓤 H E i).1 (spot_of 𝓤 H E i).2)

  abbrev cell : Val → Item 𝓤
  cell v = ‵ (fat full_share (spot_of 𝓤 H E i).0 (spot_of 𝓤 H E i).1 (spot_of 𝓤 H E i).2 v)

module _ {M : Type 1} {𝓤 : Ura M} {𝓛 : Logic 𝓤} {Γ : List (Item 𝓤)}
    {C : Calls 𝓤 𝓛.H} {Λ : Loops 𝓤 𝓛.H} {E : Env 𝓤 𝓛.H} {P : Post 𝓤 𝓛.H} {f : Callee} {i j k l : ℕ} {rest : Code} where
  -- _i is the totals, _j the answer, _k the new totals and _l the totals read
  open 𝓛 use {H}

  pub updates : Go {0} → FmC 𝓤 H 𝓛.laws C → (R : RattleType) (after : Totals → R.Denot → Totals) → Triple 𝓤 (C f) (Update 𝓛 R after)
      → Makes 𝓛 R (Is R) → (r : R.Denot) (w : Val) → Is R r (w ∷ []) → (spot_of 𝓤 H E k).0 ≡ T'.mir → (spot_of 𝓤 H E l).0 ≡ T'.mir
      → {d₀ d₁ d₂ d₃ : Item 𝓤} {κ : Lft} {q : Share} {γ : GName} (h : Totals) (b o : ℕ)
      → ((h' : Totals) (v : Val) → h' ≡ after h r
      → Seq (Go {0}) 𝓛 (‵ (fobs γ ((T.the_row).coded.code h')) ∷ ‵ (fbor κ (Body (mem T.the_row) b o γ)) ∷ ‵ (flft κ q)
      ∷ cell 𝓤 H E l (val h) ∷ d₃ ∷ cell 𝓤 H E k v ∷ d₂ ∷ cell 𝓤 H E j w ∷ d₁ ∷ cell 𝓤 H E i (vptr b o) ∷ d₀ ∷ Γ) (runs C Λ E rest P))
      → Seq (Go {0}) 𝓛 (‵ (fobs γ ((T.the_row).coded.code h)) ∷ ‵ (fbor κ (Body (mem T.the_row) b o γ)) ∷ ‵ (flft κ q)
      ∷ room 𝓤 H E l ∷ d₃ ∷ room 𝓤 H E k ∷ d₂ ∷ cell 𝓤 H E j w ∷ d₁ ∷ cell 𝓤 H E i (vptr b o) ∷ d₀ ∷ Γ)
      (runs C Λ E (seq (assign (place l []) (rv_opd (copy (place i (deref T'.mir ∷ [])))))
      (seq (call f (copy (place l []) ∷ copy (place j []) ∷ []) (place k []))
      (seq (assign (place i (deref T'.mir ∷ [])) (rv_opd (copy (place k [])))) rest))) P)
  updates z fm R after met mk r w is at-k at-l h b o go =
      let c = Update 𝓛 R after in
      let x = asked 𝓛 R after h r w in
      opened ! tt h b o (λ was.
      -- [the totals' cell; what they own; the open borrow; obs; auth; _l; …; _k; …; _j; …; _i; …]
      assigns ! (of_opd ! (load ! (from ! (hop ! (look ! 11 refl) (stop !))) (look_raw ! 0 refl)))
      (from ! (stop !)) (init ! 5 refl (rw at-l (totals_typed 𝓛 h _ was).0)) $
      owned ! R (Is R) mk r (w ∷ []) is $ move ! (2 ∷ 0 ∷ []) $ use2 𝓛 (raw (c.pre x)) (goes 𝓛 R after h r w) $
      calls_at ! fm c met x (and_then ! (held ! 5 refl) (and_then ! (held ! 9 refl) (no_more !))) (λ v.
      use1 𝓛 (later (some (λ (h' : Totals). (‵ ftrue ⊛ ‵ ((T.the_row).own_val h' (v ∷ []))) ⊛ some (λ (zs : Lasts (update R) tt (h, (r, tt))).
      ‵ (lasts (update R) tt (h, (r, tt)) zs) ⊛ raw (fact 𝓤 (h' ≡ after h r)))))) (id⊢ 𝓤 _) $
      await ! tt $ pick ! (λ h'. split ! $ move ! (1 ∷ []) $ pick ! (λ _. split ! $ drop ! $
      heard ! (h' ≡ after h r) (λ e. split ! $ drop ! $
      -- [what the new totals own; the totals' cell; the open borrow; obs; auth; _l; …; _k; …; _j; …; _i; …]
      peeks ! T.the_row (Is T.the_row) (shows 𝓛 T.the_row) h' (v ∷ []) (λ is'.
      land ! (from ! (stop !)) (init ! 7 refl (rw at-k (totals_typed 𝓛 h' _ is').0)) $
      assigns ! (of_opd ! (held ! 7 refl)) (from ! (hop ! (look ! 11 refl) (stop !))) (store_raw ! 1 refl (totals_typed 𝓛 h' _ is').0) $
      move ! (1 ∷ 0 ∷ []) $ closes ! tt T.the_row h' (v ∷ []) b o $ go h' v e))))))
