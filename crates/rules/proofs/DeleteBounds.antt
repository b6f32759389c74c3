-- Worked examples of how much one delete can touch: the sum is reached, and the claim needs its conditions.
-- Assumes nothing.
use mathlib.Core.Path.{◌≡◌, refl, sym, ap, ◌∙◌}
use mathlib.Core.Bool.{Bool, true, false}
use mathlib.Core.List.{List, [], ◌∷◌, map, map-map}
use Prim.Native.Nat.{ℕ}
use lib.IntN.{ℤ, pos}
use lib.ListN.{set, replicate}
use Rattle.schema.specs.Fields.{schema_of}
use Rattle.rules.specs.DeleteBound.{area_bound, free_records}
use Rattle.rules.specs.declared.Numbered.{Numbered}
use Rattle.rules.proofs.Inputs.{schema_s, two_keys, three_keys, cleared_parent, cleared_end, cleared_pair, pair_key, broken_set_null, calibrations, insert, delete, delete_where, begin}
use Rattle.rules.proofs.Computed.{Shown, Turns, show, on_book, ran, bound_in, bound_on, bounded_bytes, answers_then, bound_after, bound_answered, free_after}
use Rattle.rules.proofs.PaperCases.{changed, refused}

-- schema bytes, calls from a fresh area, the sum and the free journal records then, and a delete sent next with its answer; whether the claim is about such schemas
pub record BoundCase : Type 0 where
  pub schema : List ℕ
  pub sent : List (List ℤ)
  pub sum : ℕ
  pub free : ℕ
  pub next : List ℤ
  pub answered : ℕ × ℕ × ℤ
  pub claimed : Bool

-- an answer of one number
abbrev pub number : ℕ → Numbered
number n = record { code = pos 0; number = pos n }

abbrev pub refused_by : ℕ → Numbered
refused_by c = record { code = pos c; number = pos 0 }

-- a row of table 1 whose three columns refer to the row of table 0
unfoldable pub threefold : List (List ℤ)
unfolding insert
threefold = insert 0 0 0 (pos 7 ∷ []) ∷ insert 1 0 0 (pos 7 ∷ pos 7 ∷ pos 7 ∷ []) ∷ []

unfoldable pub bound_cases : List BoundCase
unfolding schema_s two_keys three_keys cleared_parent cleared_end cleared_pair calibrations threefold insert delete delete_where begin
bound_cases =
    -- a fresh area: vacant rows do not count
    record { schema = schema_s; sent = []; sum = 0; free = 8; next = delete 0 0; answered = refused 11; claimed = true }
    -- CASCADE: each live row counts 1
    ∷ record {
      schema = schema_s;
      sent = insert 0 0 0 (pos 5 ∷ []) ∷ insert 1 0 0 (pos 11 ∷ pos 5 ∷ []) ∷ [];
      sum = 2;
      free = 8;
      next = delete 0 0;
      answered = changed 2;
      claimed = true;
    }
    -- the sum is reached: two columns are set NULL one after the other, then the row is deleted. With one free record less that is 15
    ∷ record { schema = three_keys 2 2 4 6; sent = begin ∷ threefold; sum = 4; free = 4; next = delete 0 0; answered = changed 4; claimed = true }
    ∷ record { schema = three_keys 2 2 4 5; sent = begin ∷ threefold; sum = 4; free = 3; next = delete 0 0; answered = refused 15; claimed = true }
    -- a column that is NULL does not count
    ∷ record {
      schema = three_keys 2 2 4 8;
      sent = insert 0 0 0 (pos 7 ∷ []) ∷ insert 1 0 1 (pos 0 ∷ pos 7 ∷ pos 7 ∷ []) ∷ [];
      sum = 3;
      free = 8;
      next = delete 0 0;
      answered = changed 3;
      claimed = true;
    }
    -- "each column once": two keys share it
    ∷ record { schema = two_keys 2 2; sent = insert 0 0 0 (pos 7 ∷ []) ∷ insert 1 1 0 (pos 7 ∷ []) ∷ []; sum = 3; free = 8; next = delete 0 0; answered = changed 2; claimed = true }
    -- kind 10: two rows of the second table are found
    ∷ record {
      schema = three_keys 2 2 4 8;
      sent = insert 0 0 0 (pos 7 ∷ []) ∷ insert 1 0 1 (pos 0 ∷ pos 7 ∷ pos 7 ∷ []) ∷ insert 1 1 3 (pos 0 ∷ pos 0 ∷ pos 7 ∷ []) ∷ [];
      sum = 4;
      free = 8;
      next = delete_where 1 2 0 (pos 7);
      answered = changed 2;
      claimed = true;
    }
    -- a windowed key: each live row counts 1
    ∷ record {
      schema = calibrations 0 0 1 0;
      sent = insert 0 0 0 (pos 7 ∷ pos 10 ∷ pos 20 ∷ []) ∷ insert 1 0 0 (pos 7 ∷ pos 15 ∷ []) ∷ insert 1 1 0 (pos 7 ∷ pos 16 ∷ []) ∷ [];
      sum = 3;
      free = 8;
      next = delete_where 1 0 0 (pos 7);
      answered = changed 2;
      claimed = true;
    }
    -- the claim is not about SET DEFAULT: the row is changed once for each of the three keys, and counts 1
    ∷ record {
      schema = three_keys 3 3 3 8;
      sent = insert 0 0 0 (pos 7 ∷ []) ∷ insert 0 1 0 (pos 0 ∷ []) ∷ insert 1 0 0 (pos 7 ∷ pos 7 ∷ pos 7 ∷ []) ∷ [];
      sum = 3;
      free = 8;
      next = delete 0 0;
      answered = changed 4;
      claimed = false;
    }
    -- nor about a SET NULL child column in a parent key: what refers to that key is changed too
    ∷ record {
      schema = cleared_parent;
      sent = insert 0 0 0 (pos 7 ∷ []) ∷ insert 1 0 0 (pos 7 ∷ []) ∷ insert 2 0 0 (pos 7 ∷ pos 7 ∷ pos 7 ∷ []) ∷ [];
      sum = 4;
      free = 8;
      next = delete 0 0;
      answered = changed 5;
      claimed = false;
    }
    -- nor where it is the second column of its key. Where no unique key is drawn there, the key that refers to it is broken and has no parent key
    ∷ record { schema = cleared_pair 2; sent = []; sum = 0; free = 8; next = delete 0 0; answered = refused 11; claimed = false }
    ∷ record { schema = cleared_pair 0; sent = []; sum = 0; free = 8; next = delete 0 0; answered = refused 11; claimed = true }
    -- nor about one in a window, though a window's key changes no row
    ∷ record {
      schema = cleared_end;
      sent = insert 2 0 0 (pos 20 ∷ []) ∷ insert 0 0 0 (pos 7 ∷ pos 10 ∷ pos 20 ∷ []) ∷ [];
      sum = 3;
      free = 8;
      next = delete 2 0;
      answered = changed 2;
      claimed = false;
    }
    ∷ []

-- a case's sum and free records, and the answer of its delete: its calls are made once for all three
unfoldable outcome : BoundCase → ℕ × ℕ × Shown
unfolding on_book ran bound_after free_after answers_then
outcome c =
    let ws : List ℤ = (ran on_book c.schema c.sent).1 in
    (area_bound (schema_of c.schema) ws, free_records (schema_of c.schema) ws, show (on_book c.schema ws (c.next ∷ [])).0)

outcomes_hold : map outcome bound_cases ≡ map (λ (c : BoundCase). (c.sum, c.free, c.answered ∷ [])) bound_cases
unfolding outcome bound_cases
outcomes_hold = refl

module _ {A : Type 0} (part : ℕ × ℕ × Shown → A) where
  part_holds : map (λ (c : BoundCase). part (outcome c)) bound_cases ≡ map (λ (c : BoundCase). part (c.sum, c.free, c.answered ∷ [])) bound_cases
  part_holds = sym (map-map part outcome bound_cases) ∙ ap (map part) outcomes_hold ∙ map-map part _ bound_cases

-- the sums; as answers they are computed in `worked_calls`
abbrev pub SumsHold : Turns → Type 0
SumsHold turns = map (λ (c : BoundCase). bound_after turns c.schema c.sent) bound_cases ≡ map (λ (c : BoundCase). c.sum) bound_cases

abbrev pub SumsAnswered : Turns → Type 0
SumsAnswered turns = map (λ (c : BoundCase). bound_answered turns c.schema c.sent) bound_cases ≡ map (λ (c : BoundCase). number c.sum) bound_cases

pub sums_hold : SumsHold on_book
unfolding outcome bound_after
sums_hold = part_holds (λ r. r.0)

-- the free records
abbrev pub FreeHold : Turns → Type 0
FreeHold turns = map (λ (c : BoundCase). free_after turns c.schema c.sent) bound_cases ≡ map (λ (c : BoundCase). c.free) bound_cases

pub free_hold : FreeHold on_book
unfolding outcome free_after
free_hold = part_holds (λ r. r.1)

-- the deletes sent next
abbrev pub DeletesHold : Turns → Type 0
DeletesHold turns = map (λ (c : BoundCase). answers_then turns c.schema c.sent (c.next ∷ [])) bound_cases ≡ map (λ (c : BoundCase). c.answered ∷ []) bound_cases

pub deletes_hold : DeletesHold on_book
unfolding outcome answers_then
deletes_hold = part_holds (λ r. r.2)

-- the schemas
pub claimed_hold : map (λ (c : BoundCase). bounded_bytes c.schema) bound_cases ≡ map (λ (c : BoundCase). c.claimed) bound_cases
unfolding bounded_bytes bound_cases
claimed_hold = refl

-- refused by 1, 3 and 10, "with the code and 0", though a row is live (word 333 is its state)
pub bound_refused :
    bound_on [] [] ∷ bound_on schema_s (replicate 432 (pos 0)) ∷ bound_on schema_s (set (set (replicate 433 (pos 0)) 333 (pos 256)) 3 (pos 1)) ∷ []
    ≡ refused_by 1 ∷ refused_by 3 ∷ refused_by 10 ∷ []
unfolding bound_on schema_s
bound_refused = refl

-- ---- rows of table 1

-- a vacant row does not count, whatever it holds
pub vacant_rows : bound_in (two_keys 2 2) ([] ∷ ((pos 0 ∷ pos 0 ∷ []) ∷ (pos 512 ∷ pos 7 ∷ []) ∷ []) ∷ []) ≡ 0
unfolding bound_in two_keys
vacant_rows = refl

-- a column of two keys counts once, both columns of one key
pub shared_column :
    bound_in (two_keys 2 2) ([] ∷ ((pos 256 ∷ pos 7 ∷ []) ∷ []) ∷ []) ∷ bound_in (pair_key 0 2 0) ([] ∷ ((pos 256 ∷ pos 7 ∷ pos 8 ∷ []) ∷ []) ∷ []) ∷ []
    ≡ 2 ∷ 3 ∷ []
unfolding bound_in two_keys pair_key
shared_column = refl

-- that of a broken key counts too, unless it is NULL
pub broken_counted :
    bound_in broken_set_null ([] ∷ ((pos 256 ∷ pos 7 ∷ pos 5 ∷ []) ∷ []) ∷ []) ∷ bound_in broken_set_null ([] ∷ ((pos 258 ∷ pos 7 ∷ pos 0 ∷ []) ∷ []) ∷ []) ∷ []
    ≡ 2 ∷ 1 ∷ []
unfolding bound_in broken_set_null
broken_counted = refl
