-- The orphan list, from a row of a foreign key on, and the search that goes down it.
-- Assumes nothing.
use Rattle.std.specs.Prelude.{◌≡◌, Some, None, List, [], ◌∷◌, ◌++◌, ℕ, suc, ◌+◌, ◌<◌, ℤ, length, get_or, drop}
use Rattle.std.specs.declared.option.Option.{Option}
use Rattle.schema.specs.Records.{key_of}
use Rattle.schema.specs.Fields.{schema_of}
use Rattle.rules.specs.declared.Orphan.{Orphan}
use Rattle.rules.specs.Keys.{orphan}
use Rattle.rules.specs.OrphanList.{orphan_rows, orphans_from}
use Rattle.bridge.specs.Fit.{work_of}
use Rattle.bridge.specs.Ready.{Ready}
use Rattle.orphans.specs.KeyRows.{Searched}
use Rattle.orphan_scan.specs.declared.Cursor.{Cursor}

module _ (b : List ℕ) (a : List ℤ) where
  -- the orphans from foreign key k on
  unfoldable pub orphans_from_key : ℕ → List Orphan
  orphans_from_key k = orphans_from (work_of (schema_of b) a).tabs k (drop k (schema_of b).keys)

  -- the orphans from row r of foreign key k on
  unfoldable pub orphans_left : ℕ → ℕ → List Orphan
  orphans_left k r =
      orphan_rows (orphan (key_of (schema_of b) k) (get_or (work_of (schema_of b) a).tabs (key_of (schema_of b) k).parent [])) k r (drop r (get_or (work_of (schema_of b) a).tabs (key_of (schema_of b) k).child []))
      ++ orphans_from_key (suc k)

  -- the orphans that a cursor stands before
  abbrev pub orphans_at : Cursor → List Orphan
  orphans_at x = orphans_left x.orphan.key x.from

  -- from row `from` of foreign key k on, x is the first that is an orphan; where there is none, the list goes on with the next key
  abbrev pub FirstRow : ℕ → ℕ → Option ℕ → Type 0
  FirstRow k from (Some x) = (x < 1024) × (orphans_left k from ≡ record { key = k; row = x } ∷ orphans_left k (x + 1))
  FirstRow k from None = orphans_left k from ≡ orphans_from_key (suc k)

  -- an orphan is left for the cursor x
  pub record Unfinished (x : Cursor) : Type 0 where
    pub ready : Ready b a
    pub key_is : Searched b x.orphan.key x.key
    pub some : 0 < length (orphans_at x)

  -- the cursor x stands behind the first orphan that y stands before
  pub record Next (y x : Cursor) : Type 0 where
    pub heads : orphans_at y ≡ x.orphan ∷ orphans_at x
    pub key_is : Searched b x.orphan.key x.key

-- the cursor x stands before row 0 of foreign key 0
pub record Starts (b : List ℕ) (x : Cursor) : Type 0 where
  pub first_key : x.orphan.key ≡ 0
  pub first_row : x.from ≡ 0
  pub key_is : Searched b x.orphan.key x.key
