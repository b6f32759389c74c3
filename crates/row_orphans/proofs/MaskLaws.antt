-- The masks of the foreign keys that touch a table, and of those with a window.
-- Assumes nothing.
use mathlib.Core.Path.{◌≡◌, refl, sym, ◌∙◌}
use mathlib.Core.Bool.{Bool, true, false}
use mathlib.Core.List.{List}
use Prim.Native.Nat.{ℕ, ◌<◌}
use native.Mathlib.Omega.{arith}
use lib.ListN.{length}
use Rattle.schema.specs.Check.{Accepted, check_schema}
use Rattle.schema.specs.Bytes.{bit}
use Rattle.schema.specs.Records.{ForeignKey, key_of}
use Rattle.schema.specs.Fields.{schema_of}
use Rattle.schema.proofs.FieldLaws.{read_windows}
use Rattle.rows.specs.KeyColumns.{WholeKey}
use Rattle.table_keys.specs.declared.TableKeys.{TableKeys}
use Rattle.table_keys.specs.Touched.{whole_at, KeysOf}
use Rattle.table_keys.proofs.TouchLaws.{whole_at_lem, window_none, in_windowed}
use Rattle.row_orphans.specs.RowOrphans.{KindOf}

module _ {b : List ℕ} {t : ℕ} {x : TableKeys} (h : KeysOf b t x) (k : ℕ) (l : k < length (schema_of b).keys) where
  abbrev K : ForeignKey
  K = key_of (schema_of b) k

  -- one that is not in the mask of those that touch the table and are not broken
  pub not_whole : {a : Bool} → a ≡ bit k x.whole → a ≡ false → whole_at t (key_of (schema_of b) k) ≡ false
  not_whole e f = sym (h.whole.each k l) ∙ sym e ∙ f

  -- one that is in it, by whether it is in the mask of those with a window
  pub kind_of : check_schema b ≡ Accepted → {a : Bool} → a ≡ bit k x.whole → a ≡ true → {w : Bool} → w ≡ bit k x.windowed → KindOf b k w
  kind_of ok e f g =
      let at : whole_at t K ≡ true = sym (h.whole.each k l) ∙ sym e ∙ f in
      let whole : WholeKey b k = record { accepted = ok; key = l; whole = whole_at_lem t K at } in
      let windows = read_windows b ok k l refl in
      record {
        whole_key = whole;
        plain = λ n. record { whole_key = whole; plain = window_none t K at (sym (h.windowed.each k l) ∙ sym g ∙ n) (omega (arith, windows.0, windows.1)) };
        window = λ n. record { whole_key = whole; windowed = in_windowed h.windowed k l g n };
      }
