-- The running totals after a call (document 01, "Calls"; document 02, P4).
use Rattle.std.specs.Prelude.{ℕ, ◌+◌, min, Option, Some, None, Ok, Err}
use Rattle.halving.specs.declared.Cast.TheVariants as cast
use Rattle.halving.specs.declared.FirstHit.TheVariants as found
use Rattle.halving.specs.Answers.{CastAnswer, HitAnswer}
use Rattle.view.specs.declared.ViewAnswer.{ViewAnswer}
use Rattle.view.specs.declared.ViewAnswer.TheVariants as view
use Rattle.tally.specs.declared.Totals.{Totals}
use Rattle.cast.specs.Column.{ColumnAnswer}

-- "the 64-bit maximum", 2⁶⁴ − 1
abbrev pub ceiling : ℕ
ceiling = 18446744073709551615

-- "A total that would pass" the ceiling "becomes that number, and it stays there."
unfoldable pub capped : ℕ → ℕ
capped n = min n ceiling

-- what a call adds: a cast with its probes, or nothing but a refusal
abbrev pub Tally : Type 0
Tally = Option ℕ

-- "adds one to casts and its probes to probes, or, refused, one to refusals"
unfoldable pub after_tally : Totals → Tally → Totals
after_tally t (Some probes) = record { casts = capped (t.casts + 1); probes = capped (t.probes + probes); refusals = t.refusals }
after_tally t None = record { casts = t.casts; probes = t.probes; refusals = capped (t.refusals + 1) }

-- ---- what each case of an answer adds

unfoldable pub cast_tally : CastAnswer → Tally
cast_tally (Err refusal) = None
cast_tally (Ok (cast.Complete probes)) = Some probes
cast_tally (Ok (cast.Spent tick probes)) = Some probes

unfoldable pub hit_tally : HitAnswer → Tally
hit_tally (Err refusal) = None
hit_tally (Ok (found.Hit tick mark probes)) = Some probes
hit_tally (Ok (found.Clear probes)) = Some probes
hit_tally (Ok (found.Spent tick probes)) = Some probes

unfoldable pub column_tally : ColumnAnswer → Tally
column_tally (Err refusal) = None
column_tally (Ok probes) = Some probes

unfoldable pub view_tally : ViewAnswer → Tally
view_tally (view.Refused refusal) = None
view_tally (view.Hit entry mark probes) = Some probes
view_tally (view.Clear probes) = Some probes
view_tally (view.Spent place probes) = Some probes

-- ---- each total by itself

-- "casts, probes, refusals"
pub data Total : Type 0 where
  casts_total probes_total refusals_total : Total

-- its number in a record
unfoldable pub total : Total → Totals → ℕ
total casts_total t = t.casts
total probes_total t = t.probes
total refusals_total t = t.refusals

-- what a tally adds to it, whatever the ceiling
unfoldable pub adds : Total → Tally → ℕ
adds casts_total (Some probes) = 1
adds probes_total (Some probes) = probes
adds refusals_total (Some probes) = 0
adds casts_total None = 0
adds probes_total None = 0
adds refusals_total None = 1
