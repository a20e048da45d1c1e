-- The six coordinates in steps: what one float's answer says of question 15 and of the coordinate, and that all are in question 12's range.
use Rattle.std.proofs.Common.{◌≡◌, ℕ, Bool, true, false, cond, ℤ, sym, refl, ap, ◌∙◌, inl, inr, arith, w32, SFits, Some, None}
use lib.Ieee.{Float}
use Rattle.exact.proofs.Machine.{back, known}
use Rattle.exact.proofs.Tests.{cond_is, true_both}
use Rattle.record.specs.Nodes.{coordinate}
use Rattle.field.specs.Vectors.{Position}
use Rattle.field.specs.Vectors.{Ray}
use Rattle.loading.specs.Loading.{position_in_range, ray_in_range}
use Rattle.view.specs.Steps.{steps_of, Steps}
use Rattle.view.specs.Ray.{is_whole, or_zero, whole, end_whole, coordinate_of, position_of, steps_ray, end_steps, ray_whole, ray_steps}
use Rattle.view.specs.Ray.{ViewEnd}
use Rattle.view.specs.Ray.{ViewRay}
use Rattle.view.proofs.Whole.{exactly}

pub read_whole : (x : Float) {n : ℤ} → SFits w32 n → steps_of x ≡ Some n → (whole x ≡ true) × (back w32 n ≡ coordinate_of x)
unfolding whole coordinate_of
read_whole x f h = (ap is_whole h, known w32 f (sym (ap or_zero h)))

pub not_whole : (x : Float) → steps_of x ≡ None → whole x ≡ false
unfolding whole
not_whole x h = ap is_whole h

-- ---- an end and a ray, found or not

-- what a test picks, `found` or `none`, and the two are apart
module _ {X : Type 0} (t : Bool) (found none : X) (apart : found ≡ none → ⊥) where
  picked : {x : X} → cond t found none ≡ x → (x ≡ none → ⊥) → (t ≡ true) × (found ≡ x)
  picked h some = elim (cond_is t found none) [ inl k ↦ (k.0, sym k.1 ∙ h) | inr k ↦ absurd (some (sym h ∙ k.1)) ]

  left : cond t found none ≡ none → t ≡ false
  left h = elim (cond_is t found none) [ inl k ↦ absurd (apart (sym k.1 ∙ h)) | inr k ↦ k.0 ]

end_apart : {p : Position} → Some p ≡ None → ⊥
end_apart e = let z : ◌≡◌ {A = ℕ} 0 1 = cc in omega arith

ray_apart : {r : Ray} → Some r ≡ None → ⊥
ray_apart e = let z : ◌≡◌ {A = ℕ} 0 1 = cc in omega arith

module _ (e : ViewEnd) where
  pub end_whole_lem : {p : Position} → end_steps e ≡ Some p → (end_whole e ≡ true) × (p ≡ position_of e)
  unfolding end_steps
  end_whole_lem h = let k = picked (end_whole e) (Some (position_of e)) None end_apart h end_apart in (k.0, cc)

  pub end_not_whole : end_steps e ≡ None → end_whole e ≡ false
  unfolding end_steps
  end_not_whole h = left (end_whole e) (Some (position_of e)) None end_apart h

module _ (v : ViewRay) where
  pub ray_whole_lem : {r : Ray} → ray_steps v ≡ Some r → (ray_whole v ≡ true) × (r ≡ steps_ray v)
  unfolding ray_steps
  ray_whole_lem h = let k = picked (ray_whole v) (Some (steps_ray v)) None ray_apart h ray_apart in (k.0, cc)

  pub ray_not_whole : ray_steps v ≡ None → ray_whole v ≡ false
  unfolding ray_steps
  ray_not_whole h = left (ray_whole v) (Some (steps_ray v)) None ray_apart h

-- question 12 of the coordinates

coordinate_in : (x : Float) → coordinate (coordinate_of x) ≡ true
unfolding coordinate_of coordinate
coordinate_in x = go (steps_of x) (λ n h. ((exactly x n).0 h).1)
  where
    go : (r : Steps) → ((n : ℤ) → r ≡ Some n → coordinate n ≡ true) → coordinate (or_zero r) ≡ true
    go (Some n) f = f n refl
    go None f = refl

position_in : (e : ViewEnd) → position_in_range (position_of e) ≡ true
unfolding position_in_range position_of
position_in e = true_both (true_both (coordinate_in e.x) (coordinate_in e.y)) (coordinate_in e.z)

pub ray_in : (v : ViewRay) → ray_in_range (steps_ray v) ≡ true
unfolding ray_in_range steps_ray
ray_in v = true_both (position_in v.start) (position_in v.end)
