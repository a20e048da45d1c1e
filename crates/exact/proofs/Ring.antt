-- A solver for the identities of commutative rings over ℤ.
-- `ring 2 (λ a b. (a ⊕ b) ⊗ a ≔ a ⊗ a ⊕ a ⊗ b) tt a b : (a +ℤ b) *ℤ a ≡ a *ℤ a +ℤ a *ℤ b`, and so for any number of variables.
-- An expression is brought to a polynomial in Horner form: `horner p q` is p + x·q, where x is the first variable and p speaks of the others.
-- Where the polynomial of l − r has no coefficient but 0, which the checker computes (`tt`), l and r have one value.
use mathlib.Core.Path.{◌≡◌, refl, sym, ◌∙◌, ap, ap₂}
use mathlib.Core.Bool.{Bool, true, false, ◌&&◌}
use mathlib.Core.List.{List, [], ◌∷◌}
use Prim.Native.Nat.{ℕ, zero, suc}
use lib.Dec.{T}
use lib.IntN.{ℤ, pos, negsuc, neg_ℤ, ◌+ℤ◌, ◌*ℤ◌, +ℤ_idl, +ℤ_idr, +ℤ_assoc, +ℤ_comm, +ℤ_invr, zero-*ℤ, *ℤ-zero}
use mir.Facts.{and_yes}
use Rattle.exact.proofs.IntegerRing.{+ℤ_swap, +ℤ_cancel_r, +ℤ-*ℤ, *ℤ-+ℤ, neg_ℤ_*ℤ, *ℤ_assoc, *ℤ_left_comm, *ℤ_idl, *ℤ_idr}

-- ---- expressions

pub data Ex : Type 0 where
  con : ℤ → Ex
  var : ℕ → Ex
  add : Ex → Ex → Ex
  mul : Ex → Ex → Ex
  neg : Ex → Ex

infixl 6 ◌⊕◌ ◌⊖◌
infixl 7 ◌⊗◌
infix 8 ⊝◌
abbrev pub ◌⊕◌ : Ex → Ex → Ex
a ⊕ b = add a b

abbrev pub ◌⊖◌ : Ex → Ex → Ex
a ⊖ b = add a (neg b)

abbrev pub ⊝◌ : Ex → Ex
⊝ a = neg a

abbrev pub ◌⊗◌ : Ex → Ex → Ex
a ⊗ b = mul a b

-- a number
abbrev pub # : ℕ → Ex
# n = con (pos n)

abbrev lookup : List ℤ → ℕ → ℤ
lookup [] n = pos zero
lookup (x ∷ e) zero = x
lookup (x ∷ e) (suc n) = lookup e n

-- the value, where the variables have the values of a list
abbrev pub val : Ex → List ℤ → ℤ
val (con k) e = k
val (var n) e = lookup e n
val (add a b) e = val a e +ℤ val b e
val (mul a b) e = val a e *ℤ val b e
val (neg a) e = neg_ℤ (val a e)

-- ---- polynomials

pub data Poly : Type 0 where
  const : ℤ → Poly
  horner : Poly → Poly → Poly

first : List ℤ → ℤ
first [] = pos zero
first (x ∷ e) = x

others : List ℤ → List ℤ
others [] = []
others (x ∷ e) = e

ev : Poly → List ℤ → ℤ
ev (const k) e = k
ev (horner p q) e = ev p (others e) +ℤ first e *ℤ ev q e

-- p + x·q; a constant where q is 0
abbrev join : Poly → Poly → Poly
join (const k) (const (pos zero)) = const k
join (const k) (const (pos (suc n))) = horner (const k) (const (pos (suc n)))
join (const k) (const (negsuc n)) = horner (const k) (const (negsuc n))
join (const k) (horner p q) = horner (const k) (horner p q)
join (horner s t) q = horner (horner s t) q

abbrev add_c : ℤ → Poly → Poly
add_c k (const l) = const (k +ℤ l)
add_c k (horner p q) = horner (add_c k p) q

-- the same, with no work where k is 0
abbrev add_z : ℤ → Poly → Poly
add_z (pos zero) p = p
add_z (pos (suc n)) p = add_c (pos (suc n)) p
add_z (negsuc n) p = add_c (negsuc n) p

abbrev plus : Poly → Poly → Poly
plus (const k) p = add_z k p
plus (horner p q) (const k) = horner (add_z k p) q
plus (horner p q) (horner s t) = join (plus p s) (plus q t)

abbrev mul_c : ℤ → Poly → Poly
mul_c k (const l) = const (k *ℤ l)
mul_c k (horner p q) = horner (mul_c k p) (mul_c k q)

-- the same, with no work where k is 0 or 1
abbrev mul_z : ℤ → Poly → Poly
mul_z (pos zero) p = const (pos zero)
mul_z (pos (suc zero)) p = p
mul_z (pos (suc (suc n))) p = mul_c (pos (suc (suc n))) p
mul_z (negsuc n) p = mul_c (negsuc n) p

-- f, which multiplies by a polynomial in the other variables, at each coefficient of x
abbrev each : (Poly → Poly) → Poly → Poly
each f (const k) = join (f (const k)) (const (pos zero))
each f (horner p q) = horner (f p) (each f q)

abbrev times : Poly → Poly → Poly
times (const k) r = mul_z k r
times (horner p q) r = plus (each (times p) r) (join (const (pos zero)) (times q r))

-- the variable n
abbrev variable : ℕ → Poly
variable zero = horner (const (pos zero)) (const (pos 1))
variable (suc n) = horner (variable n) (const (pos zero))

abbrev norm : Ex → Poly
norm (con k) = const k
norm (var n) = variable n
norm (add a b) = plus (norm a) (norm b)
norm (mul a b) = times (norm a) (norm b)
norm (neg a) = mul_c (negsuc zero) (norm a)

abbrev is_zero : Poly → Bool
is_zero (const (pos zero)) = true
is_zero (const (pos (suc n))) = false
is_zero (const (negsuc n)) = false
is_zero (horner p q) = is_zero p && is_zero q

-- ---- the polynomial's value is the expression's

ev_join : (p q : Poly) (e : List ℤ) → ev (join p q) e ≡ ev (horner p q) e
unfolding ev
ev_join (const k) (const (pos zero)) e = sym (ap (λ (x : ℤ). k +ℤ x) (*ℤ-zero (first e)) ∙ +ℤ_idr k)
ev_join (const k) (const (pos (suc n))) e = refl
ev_join (const k) (const (negsuc n)) e = refl
ev_join (const k) (horner p q) e = refl
ev_join (horner s t) q e = refl

ev_add_c : (k : ℤ) (p : Poly) (e : List ℤ) → ev (add_c k p) e ≡ k +ℤ ev p e
unfolding ev
ev_add_c k (const l) e = refl
ev_add_c k (horner p q) e =
    ap (λ (x : ℤ). x +ℤ first e *ℤ ev q e) (ev_add_c k p (others e)) ∙ +ℤ_assoc k (ev p (others e)) (first e *ℤ ev q e)

ev_add_z : (k : ℤ) (p : Poly) (e : List ℤ) → ev (add_z k p) e ≡ k +ℤ ev p e
ev_add_z (pos zero) p e = sym (+ℤ_idl (ev p e))
ev_add_z (pos (suc n)) p e = ev_add_c (pos (suc n)) p e
ev_add_z (negsuc n) p e = ev_add_c (negsuc n) p e

ev_plus : (p q : Poly) (e : List ℤ) → ev (plus p q) e ≡ ev p e +ℤ ev q e
unfolding ev
ev_plus (const k) p e = ev_add_z k p e
ev_plus (horner p q) (const k) e =
    ap (λ (x : ℤ). x +ℤ first e *ℤ ev q e) (ev_add_z k p (others e)) ∙ +ℤ_assoc k (ev p (others e)) (first e *ℤ ev q e)
    ∙ +ℤ_comm k (ev p (others e) +ℤ first e *ℤ ev q e)
ev_plus (horner p q) (horner s t) e =
    ev_join (plus p s) (plus q t) e
    ∙ ap₂ (λ (x y : ℤ). x +ℤ first e *ℤ y) (ev_plus p s (others e)) (ev_plus q t e)
    ∙ ap (λ (x : ℤ). (ev p (others e) +ℤ ev s (others e)) +ℤ x) (*ℤ-+ℤ (first e) (ev q e) (ev t e))
    ∙ +ℤ_swap (ev p (others e)) (ev s (others e)) (first e *ℤ ev q e) (first e *ℤ ev t e)

-- k p + x (k q) = k (p + x q)
factor : (k p x q : ℤ) → k *ℤ p +ℤ x *ℤ (k *ℤ q) ≡ k *ℤ (p +ℤ x *ℤ q)
factor k p x q = ap (λ (y : ℤ). k *ℤ p +ℤ y) (*ℤ_left_comm x k q) ∙ sym (*ℤ-+ℤ k p (x *ℤ q))

ev_mul_c : (k : ℤ) (p : Poly) (e : List ℤ) → ev (mul_c k p) e ≡ k *ℤ ev p e
unfolding ev
ev_mul_c k (const l) e = refl
ev_mul_c k (horner p q) e =
    ap₂ (λ (x y : ℤ). x +ℤ first e *ℤ y) (ev_mul_c k p (others e)) (ev_mul_c k q e) ∙ factor k (ev p (others e)) (first e) (ev q e)

ev_mul_z : (k : ℤ) (p : Poly) (e : List ℤ) → ev (mul_z k p) e ≡ k *ℤ ev p e
unfolding ev
ev_mul_z (pos zero) p e = sym (zero-*ℤ (ev p e))
ev_mul_z (pos (suc zero)) p e = sym (*ℤ_idl (ev p e))
ev_mul_z (pos (suc (suc n))) p e = ev_mul_c (pos (suc (suc n))) p e
ev_mul_z (negsuc n) p e = ev_mul_c (negsuc n) p e

ev_each : (f : Poly → Poly) (a : ℤ) (p : Poly) (e : List ℤ) → ((s : Poly) → ev (f s) (others e) ≡ a *ℤ ev s (others e))
    → ev (each f p) e ≡ a *ℤ ev p e
unfolding ev
ev_each f a (const k) e h =
    ev_join (f (const k)) (const (pos zero)) e ∙ ap₂ (λ (x y : ℤ). x +ℤ y) (h (const k)) (*ℤ-zero (first e)) ∙ +ℤ_idr (a *ℤ k)
ev_each f a (horner p q) e h =
    ap₂ (λ (x y : ℤ). x +ℤ first e *ℤ y) (h p) (ev_each f a q e h) ∙ factor a (ev p (others e)) (first e) (ev q e)

ev_times : (p q : Poly) (e : List ℤ) → ev (times p q) e ≡ ev p e *ℤ ev q e
unfolding ev
ev_times (const k) q e = ev_mul_z k q e
ev_times (horner p q) s e =
    ev_plus (each (times p) s) (join (const (pos zero)) (times q s)) e
    ∙ ap₂ (λ (x y : ℤ). x +ℤ y)
    (ev_each (times p) (ev p (others e)) s e (λ (u : Poly). ev_times p u (others e)))
    (ev_join (const (pos zero)) (times q s) e ∙ +ℤ_idl (first e *ℤ ev (times q s) e) ∙ ap (λ (x : ℤ). first e *ℤ x) (ev_times q s e)
    ∙ sym (*ℤ_assoc (first e) (ev q e) (ev s e)))
    ∙ sym (+ℤ-*ℤ (ev p (others e)) (first e *ℤ ev q e) (ev s e))

ev_variable : (n : ℕ) (e : List ℤ) → ev (variable n) e ≡ lookup e n
unfolding ev first others
ev_variable zero [] = refl
ev_variable zero (x ∷ e) = +ℤ_idl (x *ℤ pos 1) ∙ *ℤ_idr x
ev_variable (suc n) [] = +ℤ_idr (ev (variable n) []) ∙ ev_variable n []
ev_variable (suc n) (x ∷ e) = ap (λ (y : ℤ). ev (variable n) e +ℤ y) (*ℤ-zero x) ∙ +ℤ_idr (ev (variable n) e) ∙ ev_variable n e

ev_norm : (a : Ex) (e : List ℤ) → ev (norm a) e ≡ val a e
unfolding ev
ev_norm (con k) e = refl
ev_norm (var n) e = ev_variable n e
ev_norm (add a b) e = ev_plus (norm a) (norm b) e ∙ ap₂ (λ (x y : ℤ). x +ℤ y) (ev_norm a e) (ev_norm b e)
ev_norm (mul a b) e = ev_times (norm a) (norm b) e ∙ ap₂ (λ (x y : ℤ). x *ℤ y) (ev_norm a e) (ev_norm b e)
ev_norm (neg a) e =
    ev_mul_c (negsuc zero) (norm a) e ∙ neg_ℤ_*ℤ (pos 1) (ev (norm a) e) ∙ ap neg_ℤ (*ℤ_idl (ev (norm a) e) ∙ ev_norm a e)

ev_is_zero : (p : Poly) (e : List ℤ) → T (is_zero p) → ev p e ≡ pos zero
unfolding ev
ev_is_zero (const (pos zero)) e t = refl
ev_is_zero (const (pos (suc n))) e t = absurd t
ev_is_zero (const (negsuc n)) e t = absurd t
ev_is_zero (horner p q) e t =
    let both = and_yes (is_zero p) (is_zero q) t in
    ap₂ (λ (x y : ℤ). x +ℤ first e *ℤ y) (ev_is_zero p (others e) both.0) (ev_is_zero q e both.1)
    ∙ +ℤ_idl (first e *ℤ pos zero) ∙ *ℤ-zero (first e)

-- ---- equations

infix 4 ◌≔◌
pub data Eqn : Type 0 where
  ◌≔◌ : Ex → Ex → Eqn

-- the test, and what it shows
abbrev pub ok : Eqn → Bool
ok (l ≔ r) = is_zero (norm (l ⊖ r))

abbrev pub Valid : Eqn → List ℤ → Type 0
Valid (l ≔ r) e = val l e ≡ val r e

pub valid : (q : Eqn) (e : List ℤ) → T (ok q) → Valid q e
valid (l ≔ r) e t =
    +ℤ_cancel_r (val l e) (val r e) (neg_ℤ (val r e))
    (sym (ev_norm (l ⊖ r) e) ∙ ev_is_zero (norm (l ⊖ r)) e t ∙ sym (+ℤ_invr (val r e)))

-- ---- any number of variables

-- a function of n expressions
abbrev pub Over : Type 0 → ℕ → Type 0
Over A zero = A
Over A (suc n) = Ex → Over A n

-- its value at the variables from k on
abbrev pub at_vars : {A : Type 0} (n k : ℕ) → Over A n → A
at_vars zero k q = q
at_vars (suc n) k q = at_vars n (suc k) (q (var k))

-- for all n numbers
abbrev pub ForAll : ℕ → (List ℤ → Type 0) → Type 0
ForAll zero P = P []
ForAll (suc n) P = (a : ℤ) → ForAll n (λ e. P (a ∷ e))

pub for_all : (n : ℕ) (P : List ℤ → Type 0) → ((e : List ℤ) → P e) → ForAll n P
for_all zero P h = h []
for_all (suc n) P h = λ a. for_all n (λ e. P (a ∷ e)) (λ e. h (a ∷ e))

pub ring : (n : ℕ) (q : Over Eqn n) → T (ok (at_vars n 0 q)) → ForAll n (Valid (at_vars n 0 q))
ring n q t = for_all n (Valid (at_vars n 0 q)) (λ e. valid (at_vars n 0 q) e t)
