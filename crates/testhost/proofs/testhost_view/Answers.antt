use Rattle.std.proofs.Common.{ap, ◌∙◌, [], ◌∷◌}
use lib.Ieee.{Float}
use Rattle.view.specs.Numbers.{view_number, view_place}
use Rattle.numbers.specs.Numbers.{view_ray_of}
use Rattle.testhost.proofs.Entries.{viewed}
use Rattle.testhost.proofs.testhost_view.Goals as goal

pub returns : goal.returns
returns c =
    let a = c.args in
    let ray = view_ray_of a.ax a.ay a.az a.bx a.by a.bz in
    let e = c.view_by_value-counted.ensures in
    let v = viewed _ _ c.from.ensures c.into.ensures {ray' = ray} _ _ c.ray_of.ensures e.viewed e.counted in
    record {
      answer = c.view_number.ensures ∙ ap view_number v.0;
      place = ap (λ (x : Float). x ∷ []) (c.place_in.ensures ∙ ap view_place v.0);
      counted = v.1;
    }
