-- The parts of an area, by its book.
-- Assumes nothing.
use mathlib.Core.Path.{◌≡◌, refl, ◌∙◌, ap}
use mathlib.Core.List.{◌++◌}
use Prim.Native.Nat.{◌*◌}
use lib.ListN.{length, take, drop}
use lib.Seq.{take_at, drop_at}
use Rattle.schema.specs.Records.{Schema}
use Rattle.rules.specs.Lists.{flat}
use Rattle.rules.specs.Values.{nat_of}
use Rattle.rules.specs.Book.{Book}
use Rattle.rules.specs.Area.{words}
use Rattle.bridge.proofs.RoundTrip.{Formed}
use Rattle.bridge.proofs.AreaParts.{record_words, front_words, words_split, front_length, records_length}
use Rattle.families.specs.EitherOrder.{journal_start, before_journal, records_used, used_words, spare_words}

module _ {s : Schema} {b : Book} (f : Formed s b) where
  pub front_is : before_journal s (words b) ≡ front_words b
  front_is = ap (take (journal_start s)) (words_split b) ∙ take_at (front_words b) _ (journal_start s) (front_length f)

  journal_is : drop (journal_start s) (words b) ≡ record_words b.work.used ++ flat b.work.spare
  journal_is = ap (drop (journal_start s)) (words_split b) ∙ drop_at (front_words b) _ (journal_start s) (front_length f)

  use_is : records_used (words b) ≡ length b.work.used
  unfolding words nat_of
  use_is = refl

  pub used_is : used_words s (words b) ≡ record_words b.work.used
  used_is = rw (use_is, journal_is) (take_at (record_words b.work.used) (flat b.work.spare) (length b.work.used * 10) (records_length f))

  pub spare_is : spare_words s (words b) ≡ flat b.work.spare
  spare_is = rw (use_is, journal_is) (drop_at (record_words b.work.used) (flat b.work.spare) (length b.work.used * 10) (records_length f))
