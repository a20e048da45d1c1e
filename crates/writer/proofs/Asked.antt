-- The writer's questions: which no is the first, as the code asks them (`in_order`), what all answered yes says (`accepted_write`), and what a
-- refusal is (`refusal_number`).
use Rattle.std.specs.Prelude.{Ok, Err}
use Prim.Native.Nat.{ℕ, ◌+◌, ◌*◌, ◌/◌, ◌%◌, ◌≤◌}
use native.Mathlib.Omega.{arith}
use mathlib.Core.Path.{◌≡◌, refl, sym, ◌∙◌, ap, subst}
use mathlib.Core.Logic.{inl, inr}
use mathlib.Core.List.{List, [], ◌∷◌, ◌++◌, map}
use mathlib.Core.Bool.{Bool, true, false, cond}
use borrow.Author.Tests.{leb-true, eqb-true}
use lib.ListN.{length}
use lib.IntN.{ℤ}
use lib.Dec.{leb, eqb}
use Rattle.exact.specs.Range.{between}
use Rattle.exact.proofs.Tests.{both_true, between_true}
use Rattle.record.specs.Questions.{Question, first_no, next, Verdict}
use Rattle.record.proofs.Questions.{first_no-append, no_is_not_yes, all_yes, yes_append, no_numbered}
use Rattle.record.specs.declared.Refusal.{Refusal}
use Rattle.record.specs.declared.Refusal.TheVariants as no
use Rattle.part.specs.File.{version_known, records_questions}
use Rattle.part.proofs.File.{records_numbered}
use Rattle.writer.specs.Bytes.{size}
use Rattle.writer.specs.Given.{given, record_of}
use Rattle.writer.specs.Writer.{counted, has_room, writer_questions, WriteRefusal}
use Rattle.writer.proofs.Given.{given-length}
use Rattle.writer.proofs.Reading.{Writable}

-- a number count that is accepted
pub record Counted (n : ℕ) : Type 0 where
  pub some : 1 ≤ n / 6
  pub few : n / 6 ≤ 511
  pub whole : n ≡ 6 * (n / 6)

pub counted_facts : (n : ℕ) → counted n ≡ true → Counted n
unfolding counted
counted_facts n e =
    let p = both_true (between 6 3066 n) (eqb (n % 6) 0) e in
    let b = between_true 6 3066 n p.0 in
    let z : n % 6 ≡ 0 = eqb-true (n % 6) 0 p.1 in
    record { some = omega (arith, b.0); few = omega (arith, b.1); whole = omega arith }

module _ (l : List ℤ) (i v room place : ℕ) where
  abbrev pub nodes_verdict : Verdict
  nodes_verdict = first_no (records_questions (map record_of (given l)) 0)

  abbrev pub last_verdict : Verdict
  last_verdict = cond (has_room (length l / 6) room place) (Ok tt) (Err no.Room)

  pub in_order : first_no (writer_questions l i v room place)
      ≡ cond (counted (length l))
      (cond (version_known v) (cond (between 1 4096 i) (next nodes_verdict last_verdict) (Err no.Iso)) (Err no.Version))
      (Err no.Numbers)
  unfolding writer_questions first_no
  in_order =
      ap
      (λ (w : Verdict).
      cond (counted (length l)) (cond (version_known v) (cond (between 1 4096 i) w (Err no.Iso)) (Err no.Version)) (Err no.Numbers))
      (first_no-append (records_questions (map record_of (given l)) 0) ((no.Room, has_room (length l / 6) room place) ∷ []))

  -- all answered yes
  pub record AcceptedWrite : Type 0 where
    pub count : Counted (length l)
    pub writable : Writable (given l) i v
    pub within : place + size (length l / 6) ≤ room
    pub short : place + size (length l / 6) ≤ 65536

  pub accepted_write : first_no (writer_questions l i v room place) ≡ Ok tt → AcceptedWrite
  unfolding writer_questions has_room
  accepted_write ok =
      let first : List Question = (no.Numbers, counted (length l)) ∷ (no.Version, version_known v) ∷ (no.Iso, between 1 4096 i) ∷ [] in
      let last : List Question = (no.Room, has_room (length l / 6) room place) ∷ [] in
      let rs = records_questions (map record_of (given l)) 0 in
      let end = place + size (length l / 6) in
      let earlier = yes_append (first ++ rs) last ok in
      let each = yes_append first rs earlier.0 in
      let k = counted_facts (length l) (all_yes first each.0 0) in
      let a = between_true 1 2 v (all_yes first each.0 1) in
      let b = between_true 1 4096 i (all_yes first each.0 2) in
      let r = both_true (leb end room) (leb end 65536) (all_yes last earlier.1 0) in
      let n = given-length l in
      record {
        count = k;
        writable = record {
          some = rw n k.some;
          few = rw n k.few;
          version_low = a.0;
          version_high = a.1;
          iso_low = b.0;
          iso_high = b.1;
          yes_to_all = each.1;
        };
        within = leb-true end room r.0;
        short = leb-true end 65536 r.1;
      }

  -- what a refusal is
  pub refusal_number : {e : Refusal} → first_no (writer_questions l i v room place) ≡ Err e → WriteRefusal e
  unfolding next
  refusal_number {e} eq =
      go (counted (length l)) (version_known v) (between 1 4096 i) nodes_verdict (has_room (length l / 6) room place) refl (sym in_order ∙ eq)
    where
      go : (c s t : Bool) (w : Verdict) (h : Bool) → nodes_verdict ≡ w
          → cond c (cond s (cond t (next w (cond h (Ok tt) (Err no.Room))) (Err no.Iso)) (Err no.Version)) (Err no.Numbers) ≡ Err e → WriteRefusal e
      go false s t w h is f = let m : no.Numbers ≡ e = cc in inr (inr (inl (sym m)))
      go true false t w h is f = let m : no.Version ≡ e = cc in inl (sym m)
      go true true false w h is f =
          let m : no.Iso ≡ e = cc in
          subst WriteRefusal m (inr (inl (omega arith, omega arith)))
      go true true true (Err k) h is f =
          let m : k ≡ e = cc in
          let rs = map record_of (given l) in
          let r = no_numbered 6 11 (records_questions rs 0) (records_numbered 6 11 (omega arith) (omega arith) rs 0) is in
          subst WriteRefusal m (inr (inl (omega (arith, r.0), omega (arith, r.1))))
      go true true true (Ok tt) false is f = let m : no.Room ≡ e = cc in inr (inr (inr (sym m)))
      go true true true (Ok tt) true is f = no_is_not_yes (sym f)
