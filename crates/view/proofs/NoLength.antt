-- The viewer's cursor (document 02, P8): six floats whose two ends are one place in steps, minus zero being 0. They are answered as a first hit on
-- the ray that stays there (`cursor`), so by what the place call answers of that place (`place_view`).
use Rattle.std.proofs.Common.{◌≡◌, ℕ, ◌^◌, ◌≤◌, true, cond, eqb, List, sym, ap, ◌∙◌, Ok}
use Rattle.part.specs.File.{iso}
use Rattle.field.specs.Vectors.{Position}
use Rattle.field.specs.declared.Bounds.{Bounds}
use Rattle.field.specs.Ray.{constant_ray}
use Rattle.field.specs.Bounds.{crossing_mark, state_of}
use Rattle.bounds.specs.Place.{place_bounds}
use Rattle.halving.specs.FirstHit.{finished}
use Rattle.cast.specs.Ticks.{exponent, hit_cost}
use Rattle.cast.specs.Calls.{first_hit}
use Rattle.cast.proofs.NoLength.{place_hit}
use Rattle.view.specs.Ray.{position_of, steps_ray, ray_whole}
use Rattle.view.specs.Call.{view_of, viewer_ticks, viewer_first_hit}
use Rattle.view.specs.Ray.{ViewRay}
use Rattle.view.proofs.Call.{ticks_found}

module _ (file : List ℕ) (ray : ViewRay) (whole : ray_whole ray ≡ true) (same : position_of ray.start ≡ position_of ray.end) (budget : ℕ) where
  abbrev p : Position
  p = position_of ray.start

  pub cursor : viewer_ticks exponent file ray budget ≡ first_hit file (constant_ray p) budget
  unfolding steps_ray
  cursor =
      ticks_found file ray budget whole ∙ ap (λ (q : Position). first_hit file (record { start = p; end = q }) budget) (sym same)

  pub place_view : {b : Bounds} → place_bounds file p ≡ Ok b → hit_cost exponent 0 ≤ budget → let s = state_of (iso file) b in
      viewer_first_hit file ray budget ≡ view_of (2 ^ exponent) (Ok (finished s 0 (cond (eqb s crossing_mark) (hit_cost exponent 0) 1)))
  unfolding viewer_first_hit
  place_view bounded few = ap (view_of (2 ^ exponent)) (cursor ∙ place_hit file p bounded budget few)
