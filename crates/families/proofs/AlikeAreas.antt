-- The areas of books that differ in the order of some journal records: the same words but those of records in use, and every word where the old records alone are left.
-- Assumes nothing.
use mathlib.Core.Path.{◌≡◌, refl, sym, ◌∙◌, ap}
use mathlib.Core.List.{[]}
use Prim.Native.Nat.{◌≤◌}
use native.Mathlib.Omega.{arith}
use lib.ListN.{length}
use Rattle.schema.specs.Records.{Schema}
use Rattle.rules.specs.Lists.{flat}
use Rattle.rules.specs.Book.{Book}
use Rattle.rules.specs.Area.{words}
use Rattle.bridge.proofs.RoundTrip.{Formed}
use Rattle.laws.proofs.Back.{length_zero}
use Rattle.families.specs.EitherOrder.{SameButRecords}
use Rattle.bridge.proofs.AreaParts.{front_words}
use Rattle.families.proofs.AreaParts.{front_is, spare_is}
use Rattle.families.proofs.Reordered.{with_used, Order, bottom, Alike, use_is, same_use}
use Rattle.families.proofs.Reordered.Alike.{same, reordered}

module _ (o : Order) where
  front_same : {b b' : Book} → Alike o b b' → front_words b' ≡ front_words b
  unfolding front_words
  front_same same = refl
  front_same (reordered b since p) = rw (same_use o since) refl

  spare_same : {b b' : Book} → Alike o b b' → b'.work.spare ≡ b.work.spare
  spare_same same = refl
  spare_same (reordered b since p) = refl

  pub areas_alike : {s : Schema} {b b' : Book} → Formed s b → Formed s b' → Alike o b b' → SameButRecords s (words b') (words b)
  areas_alike f f' a =
      record {
        before = front_is f' ∙ front_same a ∙ sym (front_is f);
        spare = spare_is f' ∙ ap flat (spare_same a) ∙ sym (spare_is f);
      }

  pub words_alike : {b b' : Book} → Alike o b b' → length b.work.used ≤ bottom o → words b' ≡ words b
  words_alike same h = refl
  words_alike (reordered b since p) h =
      let none : since ≡ [] = length_zero since (omega (arith, use_is o since o.one)) in
      let no_one : o.one ≡ [] = length_zero o.one (omega (arith, use_is o since o.one)) in
      let no_other : o.other ≡ [] = length_zero o.other (omega (arith, use_is o since o.one, o.sizes)) in
      ap (λ us. words (with_used us b)) (rw (none, no_one, no_other) refl)
