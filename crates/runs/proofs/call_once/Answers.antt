use Rattle.runs.proofs.call_once.Goals as goal

pub next_words-requires : goal.next_words-requires
next_words-requires c = c.requires c.if-reached.true
