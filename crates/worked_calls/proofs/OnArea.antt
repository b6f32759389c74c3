-- The worked examples of the rules from schema bytes and on an area's words: each call with the checks of the bytes and of the area.
-- Assumes nothing.
use mathlib.Core.Path.{refl}
use Rattle.rules.proofs.Inputs.{begin, calibrations, commit, crossed_keys, delete, delete_where, either_match, half_drawn, insert, schema_s, update}
use Rattle.rules.proofs.Computed.{on_area, answers, answers_then, answers_after, answers_with, bound_after, bound_answered, calls_left, free_after, listed_after, same_area}
use Rattle.rules.proofs.PaperCases.{Hold, paper_cases}
use Rattle.rules.proofs.Examples.{examples, UndoneStruck, undone_examples, UndoneSame, ListedHolds, orphaned, ListedFull, ListedRefused}
use Rattle.rules.proofs.ManyRows.{many_rows, NoneFoundJudged}
use Rattle.rules.proofs.OldKey.{old_keys}
use Rattle.rules.proofs.MatchFull.{match_full, ListedByMatch, unserved}
use Rattle.rules.proofs.BrokenKeys.{broken_keys, ChildDeleted, KeptJudged}
use Rattle.rules.proofs.FoldedColumns.{folded_columns}
use Rattle.rules.proofs.Windows.{windowed, TwoParents}
use Rattle.rules.proofs.DeleteBounds.{bound_cases, SumsHold, SumsAnswered, FreeHold, DeletesHold}

pub paper_cases_lem : Hold on_area paper_cases
unfolding on_area answers paper_cases
paper_cases_lem = refl

pub examples_hold : Hold on_area examples
unfolding on_area answers examples
examples_hold = refl

pub undone_struck : UndoneStruck on_area
unfolding on_area calls_left undone_examples
undone_struck = refl

pub undone_same : UndoneSame on_area
unfolding on_area same_area undone_examples
undone_same = refl

pub listed_holds : ListedHolds on_area
unfolding on_area listed_after crossed_keys orphaned
listed_holds = refl

pub listed_full : ListedFull on_area
unfolding on_area listed_after crossed_keys orphaned
listed_full = refl

pub listed_refused : ListedRefused on_area
unfolding on_area listed_after crossed_keys orphaned
listed_refused = refl

pub many_rows_lem : Hold on_area many_rows
unfolding on_area answers many_rows
many_rows_lem = refl

pub none_found_judged : NoneFoundJudged on_area
unfolding on_area answers_with schema_s delete_where
none_found_judged = refl

pub old_keys_lem : Hold on_area old_keys
unfolding on_area answers old_keys
old_keys_lem = refl

pub match_full_lem : Hold on_area match_full
unfolding on_area answers match_full
match_full_lem = refl

pub listed_by_match : ListedByMatch on_area
unfolding on_area listed_after either_match unserved
listed_by_match = refl

pub broken_keys_lem : Hold on_area broken_keys
unfolding on_area answers broken_keys
broken_keys_lem = refl

pub child_deleted : ChildDeleted on_area
unfolding on_area answers_with half_drawn update delete
child_deleted = refl

pub kept_judged : KeptJudged on_area
unfolding on_area answers_with half_drawn insert begin commit
kept_judged = refl

pub folded_columns_lem : Hold on_area folded_columns
unfolding on_area answers folded_columns
folded_columns_lem = refl

pub windowed_keys : Hold on_area windowed
unfolding on_area answers windowed
windowed_keys = refl

pub two_parents : TwoParents on_area
unfolding on_area answers_after calibrations insert delete
two_parents = refl

pub sums_hold : SumsHold on_area
unfolding on_area bound_after bound_cases
sums_hold = refl

pub sums_answered : SumsAnswered on_area
unfolding on_area bound_answered bound_cases
sums_answered = refl

pub free_hold : FreeHold on_area
unfolding on_area free_after bound_cases
free_hold = refl

pub deletes_hold : DeletesHold on_area
unfolding on_area answers_then bound_cases
deletes_hold = refl
