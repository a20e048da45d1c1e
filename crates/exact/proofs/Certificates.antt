-- Certificates for polynomial inequalities and equations over ℤ, with any number of variables.
-- `le 3 (λ a b c. l ≦ r by d) tt a b c h` proves l ≤ r from h : 0 ≤ d, where r is l + d as polynomials; `lt` proves l < r where r is l + 1 + d;
-- `eq` proves l = r from d = 0. `search nn` proves 0 ≤ d for sums and products of squares and of differences that a hypothesis orders:
-- `le 2 (λ a b. # 4 ⊗ a ⊗ b ≦ (a ⊕ b) ⊗ (a ⊕ b) by (a ⊖ b) ⊗ (a ⊖ b)) tt a b (search nn) : (pos 4 *ℤ a *ℤ b) ≤ℤ ((a +ℤ b) *ℤ (a +ℤ b))`.
-- Of a natural number n, `pos n` is put in; `pos_mono` of `Order` takes its hypotheses in, and `pos_reflect` the result out.
use mathlib.Core.Path.{◌≡◌, sym, ◌∙◌, ap, ap₂}
use mathlib.Core.Bool.{Bool}
use mathlib.Core.List.{List}
use Prim.Native.Nat.{ℕ}
use lib.Dec.{T}
use lib.IntN.{ℤ, pos, ◌+ℤ◌, ◌-ℤ◌, ◌*ℤ◌, +ℤ_idr, +ℤ_invr, *ℤ-zero}
use lib.Signed.{◌≤ℤ◌, ◌<ℤ◌}
use Rattle.exact.proofs.Ring.{Ex, val, ◌⊕◌, #, ◌≔◌, ok, valid, Over, at_vars, ForAll, for_all}
use Rattle.exact.proofs.Order.{le_by, lt_by, nn_add, nn_mul, nn_sq, nn_pos, sub_nn, lt_nn, <ℤ-le}

infix 4 ◌≦◌by◌
pub data Cert : Type 0 where
  ◌≦◌by◌ : Ex → Ex → Ex → Cert

-- ---- l ≤ r, where r is l + d

abbrev pub ok_le : Cert → Bool
ok_le (l ≦ r by d) = ok (r ≔ l ⊕ d)

abbrev pub Le : Cert → List ℤ → Type 0
Le (l ≦ r by d) e = pos 0 ≤ℤ val d e → val l e ≤ℤ val r e

le_at : (q : Cert) (e : List ℤ) → T (ok_le q) → Le q e
le_at (l ≦ r by d) e t = λ h. le_by (val l e) (val d e) h (valid (r ≔ l ⊕ d) e t)

pub le : (n : ℕ) (q : Over Cert n) → T (ok_le (at_vars n 0 q)) → ForAll n (Le (at_vars n 0 q))
le n q t = for_all n (Le (at_vars n 0 q)) (λ e. le_at (at_vars n 0 q) e t)

-- ---- l < r, where r is l + 1 + d

abbrev pub ok_lt : Cert → Bool
ok_lt (l ≦ r by d) = ok (r ≔ l ⊕ # 1 ⊕ d)

abbrev pub Lt : Cert → List ℤ → Type 0
Lt (l ≦ r by d) e = pos 0 ≤ℤ val d e → val l e <ℤ val r e

lt_at : (q : Cert) (e : List ℤ) → T (ok_lt q) → Lt q e
lt_at (l ≦ r by d) e t = λ h. lt_by (val l e) (val d e) h (valid (r ≔ l ⊕ # 1 ⊕ d) e t)

pub lt : (n : ℕ) (q : Over Cert n) → T (ok_lt (at_vars n 0 q)) → ForAll n (Lt (at_vars n 0 q))
lt n q t = for_all n (Lt (at_vars n 0 q)) (λ e. lt_at (at_vars n 0 q) e t)

-- ---- l = r, where r is l + d and d is 0

abbrev pub Eq : Cert → List ℤ → Type 0
Eq (l ≦ r by d) e = val d e ≡ pos 0 → val l e ≡ val r e

eq_at : (q : Cert) (e : List ℤ) → T (ok_le q) → Eq q e
eq_at (l ≦ r by d) e t = λ h. sym (valid (r ≔ l ⊕ d) e t ∙ ap (λ (x : ℤ). val l e +ℤ x) h ∙ +ℤ_idr (val l e))

pub eq : (n : ℕ) (q : Over Cert n) → T (ok_le (at_vars n 0 q)) → ForAll n (Eq (at_vars n 0 q))
eq n q t = for_all n (Eq (at_vars n 0 q)) (λ e. eq_at (at_vars n 0 q) e t)

pub sub_zz : {a b : ℤ} → a ≡ b → a -ℤ b ≡ pos 0
sub_zz {a} {b} h = ap (λ (x : ℤ). x -ℤ b) h ∙ +ℤ_invr b

pub zz_mul : (c : ℤ) {a : ℤ} → a ≡ pos 0 → c *ℤ a ≡ pos 0
zz_mul c h = ap (λ (x : ℤ). c *ℤ x) h ∙ *ℤ-zero c

pub zz_add : {a b : ℤ} → a ≡ pos 0 → b ≡ pos 0 → a +ℤ b ≡ pos 0
zz_add h k = ap₂ (λ (x y : ℤ). x +ℤ y) h k

-- ---- what `search` uses: that d is not negative, and that d is 0

pub ruleset nn = (nn_add, nn_mul, nn_sq, nn_pos, sub_nn, lt_nn, <ℤ-le)

pub ruleset zz = (sub_zz, zz_mul, zz_add)
