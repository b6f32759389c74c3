-- Calls run one after the other: what the loop of `run_calls` comes to.
-- Assumes nothing.
use mathlib.Core.Path.{◌≡◌, refl, sym, ◌∙◌, ap, ap₂, subst}
use mathlib.Core.List.{List, [], ◌∷◌}
use Prim.Native.Nat.{ℕ, zero, suc, ◌+◌, ◌*◌, ◌-◌, ◌/◌, ◌%◌, ◌≤◌, ◌<◌, min}
use native.Mathlib.Omega.{arith}
use native.Mathlib.Numerals.{add-one}
use borrow.Author.Tests.{le-leb, lt-leb}
use lib.IntN.{ℤ}
use lib.ListN.{length}
use Rattle.schema.specs.Ranges.{list_from}
use Rattle.rules.specs.Refusals.{Answer}
use Rattle.rules.specs.Lists.{flat}
use Rattle.rules.specs.Step.{Logged, run_all}
use Rattle.rules.specs.Area.{AreaTurn}
use Rattle.rules.specs.Engine.{call_on, run_on}
use Rattle.laws.specs.Reached.{Reached}
use Rattle.laws.proofs.Reached.{reached_next}
use Rattle.decoding.specs.CallBytes.{words_at}
use Rattle.run_tally.specs.declared.Tally.{Tally}
use Rattle.lines.specs.Text.{put}
use Rattle.lines.proofs.TextLaws.{then}
use Rattle.reports.specs.declared.Reporter.{Reporter}
use Rattle.reports.specs.Reports.{line_of, counted_in}
use Rattle.call_lines.specs.Runs.{call_at, call_count, calls_of, lines_of, counted_all, Run, run_at, ran_call, ran, after}

-- ---- call i of the bytes

pub call_whole : (bs : List ℕ) (i : ℕ) → i * 96 + 96 ≤ length bs → words_at bs (i * 96) ≡ call_at bs i
unfolding call_at
call_whole bs i h = rw (le-leb (i * 96 + 96) (length bs) h) refl

pub call_short : (bs : List ℕ) (i : ℕ) → length bs < i * 96 + 96 → [] ≡ call_at bs i
unfolding call_at
call_short bs i h = rw (lt-leb (i * 96 + 96) (length bs) h) refl

-- ---- how many there are

pub count_up : (n : ℕ) → n / 96 + min 1 (n % 96) ≡ call_count n
unfolding call_count
count_up n = omega arith

pub count_below : (n i : ℕ) → i < call_count n → i * 96 ≤ n
unfolding call_count
count_below n i h = omega (arith, h)

-- fewer bytes are no more calls
pub count_rises : (m n : ℕ) → m ≤ n → call_count m ≤ call_count n
unfolding call_count
count_rises m n h = omega (arith, h)

-- ---- a run

-- one call: its answer, the area, the tally and the text
pub one_call : (schema : List ℕ) (call : List ℤ) (r : Run) {a : Answer} {area : List ℤ} {tally : Tally} {text : ℕ × List ℕ}
    → (a, area) ≡ call_on schema call r.area → tally ≡ counted_in r.tally a → text ≡ put (line_of a) r.text
    → record { area = area; tally = tally; text = text } ≡ ran_call schema call r
unfolding ran_call
one_call schema call r {area = area} e f g =
    ap₂ (λ (t : Tally) (p : ℕ × List ℕ). record { area = area; tally = t; text = p }) f g
    ∙ ap (λ (t : AreaTurn). record { area = t.1; tally = counted_in r.tally t.0; text = put (line_of t.0) r.text }) e

-- calls led to its area
pub reached_ran : {schema : List ℕ} (call : List ℤ) (r : Run) {next : Run} → Reached schema r.area → next ≡ ran_call schema call r → Reached schema next.area
unfolding ran_call
reached_ran {schema} call r h e = subst (λ (x : Run). Reached schema x.area) (sym e) (reached_next h call)

module _ (schema bytes : List ℕ) where
  -- k calls from call i on
  unfoldable pub run_from : ℕ → ℕ → Run → Run
  run_from zero i r = r
  run_from (suc k) i r = run_from k (suc i) (ran_call schema (call_at bytes i) r)

  pub run_none : (i : ℕ) (r : Run) → run_from zero i r ≡ r
  unfolding run_from
  run_none i r = refl

  pub run_more : (k i : ℕ) (r : Run) → run_from (suc k) i r ≡ run_from k (suc i) (ran_call schema (call_at bytes i) r)
  unfolding run_from
  run_more k i r = refl

  -- after call i, of n calls
  pub run_step : (n i : ℕ) (r : Run) {next : Run} → i < n → next ≡ ran_call schema (call_at bytes i) r → run_from (n - (i + 1)) (i + 1) next ≡ run_from (n - i) i r
  run_step n i r h e =
      let left : n - i ≡ suc (n - (i + 1)) = omega (arith, h) in
      rw (left, e, add-one i) (sym (run_more (n - suc i) i r))

  -- the run after some calls
  ran_all : List (List ℤ) → Run → Run
  ran_all calls r =
      let done : List Logged × List ℤ = run_on schema calls r.area in
      record { area = done.1; tally = counted_all r.tally done.0; text = put (lines_of done.0) r.text }

  none : (r : Run) → r ≡ ran_all [] r
  unfolding ran_all run_all counted_all lines_of flat put
  none r = ap (λ n. record { area = r.area; tally = r.tally; text = (n, r.text.1) }) (omega arith)

  more : (call : List ℤ) (calls : List (List ℤ)) (r : Run) → ran_all calls (ran_call schema call r) ≡ ran_all (call ∷ calls) r
  unfolding ran_all ran_call run_all counted_all lines_of flat
  more call calls r =
      let first = call_on schema call r.area in
      let rest = run_on schema calls first.1 in
      ap (λ t. record { area = rest.1; tally = counted_all (counted_in r.tally first.0) rest.0; text = t })
      (then (line_of first.0) (lines_of rest.0) r.text refl refl)

  run_from_lem : (k i : ℕ) (r : Run) → run_from k i r ≡ ran_all (list_from (call_at bytes) k i) r
  unfolding run_from list_from
  run_from_lem zero i r = none r
  run_from_lem (suc k) i r = run_from_lem k (suc i) (ran_call schema (call_at bytes i) r) ∙ more (call_at bytes i) (list_from (call_at bytes) k (suc i)) r

  -- all of them
  pub run_all_lem : (r : Run) → run_from (call_count (length bytes)) 0 r ≡ ran schema bytes r
  unfolding ran calls_of ran_all
  run_all_lem r = run_from_lem (call_count (length bytes)) 0 r

-- of a run, the area and the tally
pub ran_after : (schema bytes : List ℕ) (area : List ℤ) (p : Reporter) {next : Run} → next ≡ ran schema bytes (run_at area p) → (next.area, next.tally) ≡ after schema bytes area p.tally
unfolding ran after
ran_after schema bytes area p e = ap (λ r. (r.area, r.tally)) e
