-- A record of the part file: the 12 bytes at a place as a node, and the questions about it (document 01, questions 6 to 10).
use Rattle.std.specs.Prelude.{ℕ, ◌+◌, List, [], ◌∷◌, cond, pos, leb, ltb}
use Rattle.record.specs.Bytes.{byte, u16, i16, zeros}
use Rattle.record.specs.Questions.{Question}
use Rattle.record.specs.Nodes.{is_point, kind_known, in_range, for_point, for_operator}
use Rattle.record.specs.declared.Node.{Node}
use Rattle.record.specs.declared.Record.{Record}
use Rattle.record.specs.declared.Refusal.TheVariants as no

-- the six numbers of the record at a place
unfoldable pub node_at : List ℕ → ℕ → Node
node_at file at = record {
  kind = pos (byte file at);
  radius = pos (u16 file (at + 2));
  x = i16 file (at + 4);
  y = i16 file (at + 6);
  z = i16 file (at + 8);
  weight = i16 file (at + 10);
}

-- a point's byte 1 is zero, and an operator's bytes 1 to 11
unfoldable pub zero_bytes : Node → ℕ
zero_bytes n = cond (is_point n) 1 11

unfoldable pub record_at : List ℕ → ℕ → Record
record_at file at = record { node = node_at file at; zeroed = zeros file (at + 1) (zero_bytes (node_at file at)) }

-- 8 to 10, about a node with so many values held before it
unfoldable pub node_questions : Node → ℕ → List Question
node_questions n held =
    (no.Point, for_point n (in_range n))
    ∷ (no.Operands, for_operator n (leb 2 held))
    ∷ (no.Depth, for_point n (ltb held 64))
    ∷ []

-- 6 to 10, about a record
unfoldable pub record_questions : Record → ℕ → List Question
record_questions r held = (no.Kind, kind_known r.node) ∷ (no.ZeroBytes, r.zeroed) ∷ node_questions r.node held
