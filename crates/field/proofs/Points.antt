-- One point, whatever the kernel: its bounds enclose its value at every place (`point_encloses`), those of a span within a span are no looser
-- (`point_within`), and those of one tick lie no farther apart than its tolerance (`point_narrow`), those of one place than
-- its part for rounding (`place_narrow`).
use mathlib.Core.Path.{◌≡◌, refl, sym, subst}
use mathlib.Core.Bool.{Bool, true, false}
use Prim.Native.Nat.{ℕ, ◌+◌, ◌*◌, ◌-◌, ◌^◌, ◌≤◌, ◌<◌}
use native.Mathlib.Nat.{mul-pos, one-le-pow, pow-le-pow_left}
use native.Mathlib.Omega.{arith}
use lib.IntN.{ℤ, pos, nat_abs, ◌-ℤ◌, ◌*ℤ◌}
use lib.Signed.{lt_z, ◌≤ℤ◌}
use Rattle.exact.specs.Fraction.{Fraction, ◌over◌, Proper, ◌≼◌, plus, times}
use Rattle.exact.proofs.Ring.{◌⊕◌, ◌⊖◌, ⊝◌, ◌⊗◌, #, ◌≔◌, ring}
use Rattle.exact.proofs.Order.{nn_pos, nn_mul, sub_nn, <ℤ-le, ≤ℤ_trans, ≤ℤ_of_eq, mul_mono_l, mul_anti_l, mul_cancel_le}
use Rattle.exact.proofs.Order.{pos_mono, pos_mono_lt, pos_reflect, le-pos_monus}
use Rattle.exact.proofs.Absolute.{pos-nat_abs_nn, pos-nat_abs-neg}
use Rattle.exact.proofs.Tests.{lt_z_true, lt_z_false}
use Rattle.exact.proofs.Certificates.{◌≦◌by◌, le, nn}
use Rattle.exact.proofs.Naturals.{mul-pow}
use Rattle.exact.proofs.Fractions.{≼_trans, ≼-over, plus_proper, plus_nn}
use Rattle.record.specs.declared.Node.{Node}
use Rattle.field.specs.Vectors.{Ray}
use Rattle.field.specs.declared.Span.{Span}
use Rattle.field.specs.declared.Bounds.{Bounds}
use Rattle.field.specs.Ray.{radius, extent, tick, Ordered, Place}
use Rattle.field.specs.Kernel.{fixed_one, Kernel, u_den, u_num, point_at}
use Rattle.field.specs.Bounds.{ray_square, prepare, qlo, qhi, weighted, point_bounds, units, Encloses, Within, NoWider}
use Rattle.field.specs.Tolerance.{demanded_of, rounding_of}
use Rattle.field.specs.Lawful.{Lawful}
use Rattle.field.proofs.Extremes.{extremes}
use Rattle.field.proofs.Between.{u_den-pos, low_holds, high_holds}
use Rattle.field.proofs.Quotients.{qlo-le, qhi-le}
use Rattle.field.proofs.Width.{tick_width, place_width}

pub one-pos : 1 ≤ fixed_one
one-pos = omega arith

-- ---- a weight times two sizes

weighted_encloses : (w : ℤ) (a b x y : ℕ) → 1 ≤ y → a * y ≤ x * fixed_one → x * fixed_one ≤ b * y → Encloses (weighted w a b) (times w (pos x over y))
unfolding weighted
weighted_encloses w a b x y p h k = go (lt_z w (pos 0)) refl
  where
    assoc : (n d : ℕ) → w *ℤ pos n *ℤ pos d ≡ w *ℤ pos (n * d)
    assoc n d = ring 3 (λ w n d. w ⊗ n ⊗ d ≔ w ⊗ (n ⊗ d)) tt w (pos n) (pos d)

    cross : (n d n' d' : ℕ) → (w *ℤ pos (n * d)) ≤ℤ (w *ℤ pos (n' * d')) → (w *ℤ pos n *ℤ pos d) ≤ℤ (w *ℤ pos n' *ℤ pos d')
    cross n d n' d' h = ≤ℤ_trans (≤ℤ_of_eq (assoc n d)) (≤ℤ_trans h (≤ℤ_of_eq (sym (assoc n' d'))))

    go : (c : Bool) → lt_z w (pos 0) ≡ c → Encloses (weighted w a b) (times w (pos x over y))
    go true e = let n = <ℤ-le (lt_z_true w (pos 0) e) in rw e (record {
      proper = p;
      above = record { cross = cross b y x fixed_one (mul_anti_l n (pos_mono k)) };
      below = record { cross = cross x fixed_one a y (mul_anti_l n (pos_mono h)) };
    })
    go false e = let n = lt_z_false w (pos 0) e in rw e (record {
      proper = p;
      above = record { cross = cross a y x fixed_one (mul_mono_l n (pos_mono h)) };
      below = record { cross = cross x fixed_one b y (mul_mono_l n (pos_mono k)) };
    })

weighted_within : (w : ℤ) {x y x' y' : ℕ} → x ≤ x' → y' ≤ y → Within (weighted w x' y') (weighted w x y)
unfolding weighted
weighted_within w {x} {y} {x'} {y'} h k = go (lt_z w (pos 0)) refl
  where
    go : (c : Bool) → lt_z w (pos 0) ≡ c → Within (weighted w x' y') (weighted w x y)
    go true e = let n = <ℤ-le (lt_z_true w (pos 0) e) in rw e (record { low = mul_anti_l n (pos_mono k); high = mul_anti_l n (pos_mono h) })
    go false e = let n = lt_z_false w (pos 0) e in rw e (record { low = mul_mono_l n (pos_mono h); high = mul_mono_l n (pos_mono k) })

weighted_width : (w : ℤ) (x y : ℕ) → ((weighted w x y).high -ℤ (weighted w x y).low) ≤ℤ (pos (nat_abs w) *ℤ pos (y - x))
unfolding weighted
weighted_width w x y = go (lt_z w (pos 0)) refl
  where
    apart : (v : ℤ) → pos 0 ≤ℤ v → (v *ℤ pos y -ℤ v *ℤ pos x) ≤ℤ (v *ℤ pos (y - x))
    apart v h = ≤ℤ_trans (≤ℤ_of_eq (ring 3 (λ v x y. v ⊗ y ⊖ v ⊗ x ≔ v ⊗ (y ⊖ x)) tt v (pos x) (pos y))) (mul_mono_l h (le-pos_monus y x))

    -- v is w without its sign
    go : (c : Bool) → lt_z w (pos 0) ≡ c → ((weighted w x y).high -ℤ (weighted w x y).low) ≤ℤ (pos (nat_abs w) *ℤ pos (y - x))
    go true e =
        rw e (≤ℤ_trans (≤ℤ_of_eq (ring 3 (λ w x y. w ⊗ x ⊖ w ⊗ y ≔ ⊝ w ⊗ y ⊖ ⊝ w ⊗ x) tt w (pos x) (pos y)))
        (subst (λ (v : ℤ). (v *ℤ pos y -ℤ v *ℤ pos x) ≤ℤ (pos (nat_abs w) *ℤ pos (y - x))) (pos-nat_abs-neg (<ℤ-le (lt_z_true w (pos 0) e)))
        (apart (pos (nat_abs w)) (nn_pos (nat_abs w)))))
    go false e =
        rw e (subst (λ (v : ℤ). (v *ℤ pos y -ℤ v *ℤ pos x) ≤ℤ (pos (nat_abs w) *ℤ pos (y - x))) (pos-nat_abs_nn (lt_z_false w (pos 0) e))
        (apart (pos (nat_abs w)) (nn_pos (nat_abs w))))

-- ---- a q and its sizes: d/R is u at a place

module _ (k : Kernel) (law : Lawful k) (q R d : ℕ) where
  c_pos : 0 < 65536 ^ k.power
  c_pos = one-le-pow k.power 65536 (omega arith)

  -- a b ≤ c e, to the power n
  powers : (a b c e n : ℕ) → a * b ≤ c * e → a ^ n * b ^ n ≤ c ^ n * e ^ n
  powers a b c e n h = subst (λ (x : ℕ). x ≤ c ^ n * e ^ n) (mul-pow a b n) (subst (λ (x : ℕ). (a * b) ^ n ≤ x) (mul-pow c e n) (pow-le-pow_left h n))

  low_size : q * R ≤ 65536 * d → k.low q * R ^ k.power ≤ d ^ k.power * fixed_one
  low_size h =
      let h₁ = pos_mono (powers q R 65536 d k.power h) in
      let h₂ = pos_mono (law.down q) in
      pos_reflect (mul_cancel_le (pos_mono_lt c_pos)
      (le 6 (λ a c q s R d. a ⊗ R ⊗ c ≦ d ⊗ s ⊗ c by R ⊗ (q ⊗ s ⊖ a ⊗ c) ⊕ s ⊗ (c ⊗ d ⊖ q ⊗ R)) tt
      (pos (k.low q)) (pos (65536 ^ k.power)) (pos (q ^ k.power)) (pos fixed_one) (pos (R ^ k.power)) (pos (d ^ k.power)) (search nn depth 8)))

  high_size : 65536 * d ≤ q * R → d ^ k.power * fixed_one ≤ k.high q * R ^ k.power
  high_size h =
      let h₁ = pos_mono (powers 65536 d q R k.power h) in
      let h₂ = pos_mono (law.up q) in
      pos_reflect (mul_cancel_le (pos_mono_lt c_pos)
      (le 6 (λ a c q s R d. d ⊗ s ⊗ c ≦ a ⊗ R ⊗ c by R ⊗ (a ⊗ c ⊖ q ⊗ s) ⊕ s ⊗ (q ⊗ R ⊖ c ⊗ d)) tt
      (pos (k.high q)) (pos (65536 ^ k.power)) (pos (q ^ k.power)) (pos fixed_one) (pos (R ^ k.power)) (pos (d ^ k.power)) (search nn depth 8)))

times_mono : (v : ℕ) {x y : Fraction} → x ≼ y → times (pos v) x ≼ times (pos v) y
times_mono v {x} {y} h = record {
  cross = le 5 (λ v a b c d. v ⊗ a ⊗ d ≦ v ⊗ c ⊗ b by v ⊗ (c ⊗ b ⊖ a ⊗ d)) tt (pos v) x.num (pos x.den) y.num (pos y.den)
      (nn_mul (nn_pos v) (sub_nn h.cross));
}

-- nothing added, whatever it is counted in
none_more : (t n : ℕ) (x : Fraction) → plus (pos (n * 0) over t) x ≼ x
unfolding plus
none_more t n x = record {
  cross = ≤ℤ_of_eq (ring 4 (λ t n a b. (n ⊗ # 0 ⊗ b ⊕ a ⊗ t) ⊗ b ≔ a ⊗ (t ⊗ b)) tt (pos t) (pos n) x.num (pos x.den));
}

-- ---- the point

module _ (k : Kernel) (law : Lawful k) (ray : Ray) (p : Node) (hr : 1 ≤ radius p) where
  abbrev on : Span → Bounds
  on s = point_bounds k (ray_square ray) s (prepare ray p)

  pub point_encloses : {s : Span} → Ordered s → (x : Place s) → Encloses (on s) (point_at k ray x.n x.m p)
  unfolding point_bounds point_at prepare
  point_encloses {s} o x =
      let f = extremes ray p s hr o in
      let R : ℕ = u_den p x.m in
      let d : ℕ = u_num ray p x.n x.m in
      let l : ℕ = qlo (ray_square ray) (prepare ray p) s in
      let h : ℕ = qhi (ray_square ray) (prepare ray p) s in
      weighted_encloses p.weight (k.low l) (k.high h) (d ^ k.power) (R ^ k.power) (one-le-pow k.power R (u_den-pos p hr x.proper))
      (low_size k law l R d (low_holds hr f x)) (high_size k law h R d (high_holds hr f x))

  pub point_within : (s s' : Span) → qlo (ray_square ray) (prepare ray p) s ≤ qlo (ray_square ray) (prepare ray p) s'
      → qhi (ray_square ray) (prepare ray p) s' ≤ qhi (ray_square ray) (prepare ray p) s → Within (on s') (on s)
  unfolding point_bounds prepare
  point_within s s' h g = weighted_within p.weight (law.low_rises h) (law.high_rises g)

  pub demanded_proper : {T : ℕ} → 1 ≤ T → Proper (demanded_of k ray T p)
  unfolding demanded_of
  demanded_proper {T} hT = plus_proper (pos (k.slope * extent ray) over (T * radius p)) k.slack (mul-pos hT hr) law.slack_proper

  pub demanded_nn : (T : ℕ) → pos 0 ≤ℤ (demanded_of k ray T p).num
  unfolding demanded_of
  demanded_nn T =
      nn_mul (nn_pos (nat_abs p.weight))
      (plus_nn (pos (k.slope * extent ray) over (T * radius p)) k.slack (nn_pos (k.slope * extent ray)) law.slack_nn)

  -- how far its bounds over a span lie apart, where its two q lie as close as those of a stretch of S/t
  spread : (s : Span) → 1 ≤ s.ticks → (S t : ℕ)
      → (qhi (ray_square ray) (prepare ray p) s - qlo (ray_square ray) (prepare ray p) s) * t ≤ 131072 * S + 2 * t
      → units ((on s).high -ℤ (on s).low) ≼ times (pos (nat_abs p.weight)) (plus (pos (k.slope * S) over t) k.slack)
  unfolding point_bounds prepare
  spread s hT S t h =
      let l : ℕ = qlo (ray_square ray) (prepare ray p) s in
      let g : ℕ = qhi (ray_square ray) (prepare ray p) s in
      let l_le = qlo-le (ray_square ray) (prepare ray p) s in
      let g-le = qhi-le (ray_square ray) (prepare ray p) s (mul-pos hr hr) hT in
      ≼_trans one-pos (≼-over fixed_one (weighted_width p.weight (k.low l) (k.high g)))
      (times_mono (nat_abs p.weight) (law.narrow l g S t l_le g-le h))

  pub point_narrow : (t : ℕ) {T : ℕ} → 1 ≤ T → NoWider (on (tick t T)) (demanded_of k ray T p)
  unfolding demanded_of
  point_narrow t {T} hT = record {
    proper = demanded_proper hT;
    width = spread (tick t T) hT (extent ray) (T * radius p) (tick_width ray p t T hr hT);
  }

  pub rounding_nn : pos 0 ≤ℤ (rounding_of k p).num
  unfolding rounding_of
  rounding_nn = nn_mul (nn_pos _) law.slack_nn

  pub place_narrow : {s : Span} → Ordered s → s.from ≡ s.to → NoWider (on s) (rounding_of k p)
  unfolding rounding_of
  place_narrow {s} o one = record {
    proper = law.slack_proper;
    width = ≼_trans (plus_proper (pos (k.slope * 0) over (s.ticks * radius p)) k.slack (mul-pos o.ticks_low hr) law.slack_proper)
        (spread s o.ticks_low 0 (s.ticks * radius p) (place_width ray p hr o one))
        (times_mono (nat_abs p.weight) (none_more (s.ticks * radius p) k.slope k.slack));
  }
