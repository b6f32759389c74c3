use Rattle.table_keys.proofs.TouchLaws.{KeysBelow}
use Rattle.table_keys.proofs.keys_of.Given as goal

abbrev pub invariant-loop-k : goal.invariant-loop-k
invariant-loop-k l = KeysBelow l.schema.bytes l.t l.k l.keys
