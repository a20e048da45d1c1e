use Rattle.std.proofs.Common.{◌≡◌}
use lib.Seq.{sets}
use Rattle.writer.specs.Bytes.{records_bytes}
use Rattle.writer.specs.Given.{nodes_in}
use Rattle.writer.specs.Storable.{AllStorable}
use Rattle.writer.proofs.Records.{given_from, stored_from}
use Rattle.writer.proofs.put_records.Given as goal

-- what is left of the nodes is storable, and stored too makes the whole
abbrev pub invariant-loop-k : goal.invariant-loop-k
invariant-loop-k l = record {
  storable : AllStorable (given_from l.numbers l.n l.k);
  whole : stored_from l.numbers l.n l.out l.place l.k ≡ sets l.initial.out l.place (records_bytes (nodes_in l.numbers l.n 0));
}
