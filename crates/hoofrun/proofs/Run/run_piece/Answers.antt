use Rattle.std.proofs.Common.{◌≡◌, ap, refl, ℕ, List, ℤ, OnErr, Result, Ok, Err, length, take, length-take, arith}
use Rattle.schema.specs.Ranges.{list_from}
use Rattle.rules.specs.Step.{run_all}
use Rattle.run_tally.specs.declared.Tally.{Tally}
use Rattle.reports.specs.declared.Reporter.{Reporter}
use Rattle.call_lines.specs.Runs.{after, calls_of, call_count}
use Rattle.call_lines.proofs.RunLaws.{count_rises, ran_after}
use Rattle.hoofrun.proofs.Run.run_piece.Goals as goal

-- what holds anyway holds on an error
on_error : {T E : Type 0} {P : Type 0} (r : Result T E) → P → OnErr r P
on_error (Ok x) p = tt
on_error (Err e) p = p

-- no byte is no call
no_bytes : (schema bytes : List ℕ) (area : List ℤ) (t : Tally) → area ≡ (after schema (take 0 bytes) area t).0
unfolding after calls_of call_count list_from run_all
no_bytes schema bytes area t = refl

pub returns-in_err-n-clause-err : goal.returns-in_err-n-clause-err
returns-in_err-n-clause-err g c =
    let r = c.args.self.now in
    let none : (n : ℕ) × (r.area.now ≡ (after r.schema.now (take n c.read_full.new.bytes) r.area.now r.reporter.tally).0) = (0, no_bytes r.schema.now c.read_full.new.bytes r.area.now r.reporter.tally) in
    on_error _ none

pub run_calls-requires : goal.run_calls-requires
run_calls-requires g c =
    let piece = take c.in_ok-n.n c.read_full.new.bytes in
    let few = count_rises (length piece) (length c.args.input.now) (simp length-take (omega arith)) in
    (c.requires.0, omega (arith, few, c.requires.1, c.args.self.now.room))

pub returns-in_err-write_all-clause-err : goal.returns-in_err-write_all-clause-err
returns-in_err-write_all-clause-err g c =
    let r = c.args.self.now in
    let p : Reporter = record { tally = r.reporter.tally; text = record { out = r.reporter.text.out; used = 0 } } in
    let led : (c.run_calls.new.area, c.run_calls.new.reporter.tally) ≡ after r.schema.now (take c.in_ok-n.n c.read_full.new.bytes) r.area.now r.reporter.tally =
    ran_after r.schema.now (take c.in_ok-n.n c.read_full.new.bytes) r.area.now p c.run_calls.ensures.ran in
    let some : (n : ℕ) × (c.run_calls.new.area ≡ (after r.schema.now (take n c.read_full.new.bytes) r.area.now r.reporter.tally).0) =
    (c.in_ok-n.n, ap (λ (x : List ℤ × Tally). x.0) led) in
    on_error _ some

pub returns-clause-ok : goal.returns-clause-ok
returns-clause-ok g c =
    let r = c.args.self.now in
    let p : Reporter = record { tally = r.reporter.tally; text = record { out = r.reporter.text.out; used = 0 } } in
    ran_after r.schema.now (take c.in_ok-n.n c.read_full.new.bytes) r.area.now p c.run_calls.ensures.ran
