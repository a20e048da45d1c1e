use Rattle.std.proofs.Common.{◌≡◌, ◌+◌, ◌-◌, ◌*◌, ap, ◌∙◌, arith}
use lib.Seq.{sets}
use Rattle.record.specs.declared.Node.{Node}
use Rattle.writer.specs.Bytes.{record_bytes, records_bytes}
use Rattle.writer.specs.Given.{nodes_in}
use Rattle.writer.proofs.Records.{bytes_step, storable_step}
use Rattle.writer.proofs.put_records.Goals as goal

pub put_record-requires-clause-storable : goal.put_record-requires-clause-storable
put_record-requires-clause-storable c =
    let l = c.loop-k in
    rw c.node_in.ensures (storable_step c.args.numbers.now c.args.n l.k c.loop-k-test.true l.invariant.storable).0

pub loop-k-preserved : goal.loop-k-preserved
loop-k-preserved c =
    let l = c.loop-k in
    let a = c.args in
    record {
      storable = (storable_step a.numbers.now a.n l.k c.loop-k-test.true l.invariant.storable).1;
      whole = bytes_step a.numbers.now a.n l.out a.place l.k c.loop-k-test.true
          (c.put_record.ensures ∙ ap (λ (m : Node). sets l.out (a.place + 12 * l.k) (record_bytes m)) c.node_in.ensures)
          ∙ l.invariant.whole;
    }

pub returns : goal.returns
unfolding nodes_in records_bytes
returns c =
    let e : c.args.n - c.loop-k.k ≡ 0 = omega arith in
    rw e at c.loop-k.invariant.whole
