-- What a host in C gets from each call (document 01, "Calls"; document 02, P2, P4, P5 and P9): its number, what was lent afterwards, and all that the
-- call promises of the answer that the number stands for, demands 2 and 3 included.
use Rattle.std.specs.Prelude.{◌≡◌, List, ℕ, length, ℤ}
use Rattle.part.specs.File.{check_file, Says}
use Rattle.field.specs.Vectors.{Position}
use Rattle.field.specs.Vectors.{Ray}
use Rattle.field.specs.Solid.{solid_of}
use Rattle.bounds.specs.Place.{place_bounds, PlaceSays}
use Rattle.cast.specs.Ticks.{exponent}
use Rattle.cast.specs.Calls.{full_cast, marks_left, first_hit, column_answer, bits_left}
use Rattle.halving.specs.Answers.{cast_number, hit_number}
use Rattle.cast.specs.Column.{column_number}
use Rattle.cast.specs.Demands.{CastDemands, HitDemands, ColumnDemands}
use Rattle.march.specs.Calls.{marching_cast, marched_left}
use Rattle.march.specs.Demands.{MarchDemands}
use Rattle.view.specs.Ray.{ViewRay}
use Rattle.view.specs.Call.{viewer_ticks, viewer_first_hit}
use Rattle.view.specs.Demands.{ViewDemands}
use Rattle.nodes.specs.Numbers.{loaded}
use Rattle.writer.specs.Writer.{write_answer, buffer_left, WriteSays, Returned}
use Rattle.tally.specs.Saved.{read_saved, SavedSays}
use Rattle.numbers.specs.Numbers.{Told, check_number, bounds_number, bounds_left, write_number, saved_number, saved_left}

-- a full cast's number, and the bytes afterwards in the buffer that was lent
pub record HostCast (file : List ℕ) (ray : Ray) (budget : ℕ) (lent : List ℕ) (number : ℕ) (after : List ℕ) : Type 0 where
  pub number_is : number ≡ cast_number (full_cast file ray budget (length lent))
  pub bytes : after ≡ marks_left file ray budget lent
  pub demands : CastDemands (solid_of file) ray exponent budget (full_cast file ray budget (length lent)) after

-- a marching cast's number, which is a full cast's for each case of the answer, and the bytes afterwards in the buffer that was lent
pub record HostMarch (file : List ℕ) (ray : Ray) (budget : ℕ) (lent : List ℕ) (number : ℕ) (after : List ℕ) : Type 0 where
  pub number_is : number ≡ cast_number (marching_cast file ray budget (length lent))
  pub bytes : after ≡ marched_left file ray budget lent
  pub demands : MarchDemands (solid_of file) ray exponent budget (marching_cast file ray budget (length lent)) after

-- a first hit's number
pub record HostHit (file : List ℕ) (ray : Ray) (budget number : ℕ) : Type 0 where
  pub number_is : number ≡ hit_number (first_hit file ray budget)
  pub demands : HitDemands (solid_of file) ray exponent budget (first_hit file ray budget)

-- a column's number, and the bytes afterwards in the buffer that was lent
pub record HostColumn (file : List ℕ) (ray : Ray) (lent : List ℕ) (number : ℕ) (after : List ℕ) : Type 0 where
  pub number_is : number ≡ column_number (column_answer file ray (length lent))
  pub bytes : after ≡ bits_left file ray lent
  pub demands : ColumnDemands (solid_of file) ray exponent (column_answer file ray (length lent)) after

-- a check's number
pub record HostCheck (file : List ℕ) (number : ℕ) : Type 0 where
  pub number_is : number ≡ check_number (check_file file)
  pub told : Told 11 number
  pub says : Says file (check_file file)

-- the number of the bounds at a place, and the two that were lent afterwards
pub record HostBounds (file : List ℕ) (place : Position) (lent : List ℤ) (number : ℕ) (after : List ℤ) : Type 0 where
  pub number_is : number ≡ bounds_number (place_bounds file place)
  pub bounds : after ≡ bounds_left (place_bounds file place) lent
  pub told : Told 12 number
  pub says : PlaceSays file place (place_bounds file place)

-- a viewer's first hit's number: a first hit's, of the answer in ticks, each of whose places is its tick over 1,024 exactly
pub record HostView (file : List ℕ) (ray : ViewRay) (budget number : ℕ) : Type 0 where
  pub number_is : number ≡ hit_number (viewer_ticks exponent file ray budget)
  pub demands : ViewDemands file ray exponent budget (viewer_first_hit file ray budget)

-- a read's number, which is a check's, and the array afterwards that was lent
pub record HostRead (file : List ℕ) (lent : List ℤ) (number : ℕ) (after : List ℤ) : Type 0 where
  pub number_is : number ≡ check_number (check_file file)
  pub numbers : after ≡ loaded file lent
  pub told : Told 11 number
  pub says : Says file (check_file file)

-- a write's number, and the bytes afterwards in the buffer that was lent
pub record HostWrite (numbers : List ℤ) (iso version : ℕ) (lent : List ℕ) (place number : ℕ) (after : List ℕ) : Type 0 where
  pub number_is : number ≡ write_number (write_answer numbers iso version (length lent) place)
  pub bytes : after ≡ buffer_left numbers iso version lent place
  pub told : Told 17 number
  pub says : WriteSays numbers iso version lent place (write_answer numbers iso version (length lent) place) after
  pub returned : Returned numbers iso version lent place (write_answer numbers iso version (length lent) place) after

-- a saved record's number, and the totals afterwards that were lent
pub record HostRestore (saved lent : List ℕ) (number : ℕ) (after : List ℕ) : Type 0 where
  pub number_is : number ≡ saved_number (read_saved saved)
  pub totals : after ≡ saved_left (read_saved saved) lent
  pub told : Told 18 number
  pub says : SavedSays saved (read_saved saved)
