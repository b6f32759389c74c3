-- Worked examples of windowed keys: a window's end is not in it, and a reading belongs to the calibration of its day.
-- Assumes nothing.
use mathlib.Core.Path.{◌≡◌, refl}
use mathlib.Core.Bool.{true, false}
use mathlib.Core.List.{List, [], ◌∷◌, map}
use lib.IntN.{ℤ, pos, negsuc}
use Rattle.rules.specs.Keys.{is_within, shares_day}
use Rattle.rules.proofs.Inputs.{calibrations, endless, insert, update, delete, begin, commit, update_where}
use Rattle.rules.proofs.Computed.{Turns, on_book, answers, answers_after}
use Rattle.rules.proofs.PaperCases.{Case, Hold, none, one, refused}

-- ---- days

-- the last and the first day that a word can hold
abbrev last : ℤ
last = pos 0x7FFFFFFFFFFFFFFF

abbrev first : ℤ
first = negsuc 0x7FFFFFFFFFFFFFFF

-- a window holds its first day and not its end, days below 0 come before 0, and one whose end is its first day or before it is empty
pub window_holds :
    map (λ (x : ℤ × ℤ × ℤ). is_within x.0 x.1 x.2)
    ((pos 10, pos 20, pos 9) ∷ (pos 10, pos 20, pos 10) ∷ (pos 10, pos 20, pos 19) ∷ (pos 10, pos 20, pos 20) ∷ (negsuc 4, pos 3, negsuc 4) ∷ (negsuc 4, pos 3, negsuc 5) ∷ (first, last, first) ∷ (first, last, last) ∷ (pos 5, pos 5, pos 5) ∷ (pos 5, pos 3, pos 4) ∷ [])
    ≡ false ∷ true ∷ true ∷ false ∷ true ∷ false ∷ true ∷ false ∷ false ∷ false ∷ []
unfolding is_within
window_holds = refl

-- one day is enough; windows that touch share none, nor does an empty one, wherever it stands
pub windows_share :
    map (λ (x : ℤ × ℤ × ℤ × ℤ). shares_day x.0 x.1 x.2 x.3)
    ((pos 10, pos 20, pos 19, pos 30) ∷ (pos 10, pos 20, pos 20, pos 30) ∷ (pos 10, pos 20, pos 12, pos 13) ∷ (pos 5, pos 5, pos 3, pos 8) ∷ (pos 3, pos 8, pos 6, pos 5) ∷ (first, last, negsuc 0, pos 0) ∷ [])
    ≡ true ∷ false ∷ true ∷ false ∷ false ∷ true ∷ []
unfolding shares_day
windows_share = refl

-- ---- calls

-- a calibration of sensor 7, and a reading of it
abbrev calibrated : ℤ → ℤ → List ℤ
calibrated from end = pos 7 ∷ from ∷ end ∷ []

abbrev taken : ℤ → List ℤ
taken day = pos 7 ∷ day ∷ []

unfoldable pub windowed : List Case
unfolding calibrations endless insert update delete begin commit update_where
windowed =
    -- a reading on the first day, the last day and the end day; on a day below the first
    record {
      schema = calibrations 0 0 1 0;
      sent = insert 0 0 0 (calibrated (negsuc 9) (pos 20)) ∷ insert 1 0 0 (taken (negsuc 9)) ∷ insert 1 1 0 (taken (pos 19)) ∷ insert 1 2 0 (taken (pos 20)) ∷ insert 1 2 0 (taken (negsuc 10)) ∷ insert 1 2 2 (taken (pos 0)) ∷ [];
      answered = one ∷ one ∷ one ∷ refused 20 ∷ refused 20 ∷ one ∷ [];
    }
    -- 24: an empty window, one that shares a day; not one that touches, nor another sensor's. 17 comes first. NULL in the key or the end is passed over, as the written row and as the other
    ∷ record {
      schema = calibrations 0 0 1 0;
      sent =
          insert 0 0 0 (calibrated (pos 10) (pos 20))
          ∷ insert 0 1 0 (calibrated (pos 20) (pos 20))
          ∷ insert 0 1 0 (calibrated (pos 5) (pos 11))
          ∷ insert 0 1 0 (calibrated (pos 10) (pos 11))
          ∷ insert 0 1 0 (calibrated (pos 20) (pos 30))
          ∷ update 0 1 0 (calibrated (pos 19) (pos 30))
          ∷ insert 0 2 0 (pos 8 ∷ pos 15 ∷ pos 25 ∷ [])
          ∷ insert 0 3 4 (calibrated (pos 12) (pos 0))
          ∷ update 0 0 0 (calibrated (pos 11) (pos 20))
          ∷ delete 0 1
          ∷ [];
      answered = one ∷ refused 24 ∷ refused 24 ∷ refused 17 ∷ one ∷ refused 24 ∷ one ∷ one ∷ one ∷ one ∷ [];
    }
    -- RESTRICT: an update that keeps all its readings is accepted; one that leaves a reading out is not, whether it shortens, moves or renames, nor a deletion; nor where the readings are another's then
    ∷ record {
      schema = calibrations 0 0 1 0;
      sent =
          insert 0 0 0 (calibrated (pos 10) (pos 20))
          ∷ insert 1 0 0 (taken (pos 12))
          ∷ insert 1 1 0 (taken (pos 19))
          ∷ update 0 0 0 (calibrated (pos 12) (pos 21))
          ∷ update 0 0 0 (calibrated (pos 12) (pos 19))
          ∷ update 0 0 0 (calibrated (pos 13) (pos 21))
          ∷ update 0 0 0 (pos 8 ∷ pos 12 ∷ pos 21 ∷ [])
          ∷ update 0 0 4 (calibrated (pos 12) (pos 0))
          ∷ delete 0 0
          ∷ insert 0 1 0 (calibrated (pos 30) (pos 40))
          ∷ update 0 1 0 (calibrated (pos 21) (pos 40))
          ∷ [];
      answered = one ∷ one ∷ one ∷ one ∷ refused 18 ∷ refused 18 ∷ refused 18 ∷ refused 18 ∷ refused 18 ∷ one ∷ one ∷ [];
    }
    -- NO ACTION: an immediate key refuses what is left at the end
    ∷ record {
      schema = calibrations 0 0 0 0;
      sent =
          insert 0 0 0 (calibrated (pos 10) (pos 20))
          ∷ insert 1 0 0 (taken (pos 15))
          ∷ update 0 0 0 (calibrated (pos 10) (pos 15))
          ∷ update 0 0 4 (calibrated (pos 10) (pos 0))
          ∷ update_where 0 0 0 (pos 7) 2 (pos 15)
          ∷ update 0 0 0 (calibrated (pos 15) (pos 16))
          ∷ [];
      answered = one ∷ one ∷ refused 20 ∷ refused 20 ∷ refused 20 ∷ one ∷ [];
    }
    -- a deferred key counts: shortened past a reading, lengthened over it, a calibration without an end, a new calibration over two orphans
    ∷ record {
      schema = calibrations 0 1 0 0;
      sent =
          begin
          ∷ insert 0 0 0 (calibrated (pos 10) (pos 20))
          ∷ insert 1 0 0 (taken (pos 15))
          ∷ insert 1 1 0 (taken (pos 25))
          ∷ update 0 0 0 (calibrated (pos 10) (pos 15))
          ∷ commit
          ∷ update 0 0 0 (calibrated (pos 10) (pos 16))
          ∷ update 0 0 4 (calibrated (pos 10) (pos 0))
          ∷ insert 0 1 0 (calibrated (pos 15) (pos 26))
          ∷ commit
          ∷ [];
      answered = none ∷ one ∷ one ∷ (0, 1, pos 1) ∷ (0, 1, pos 1) ∷ refused 21 ∷ (0, 1, negsuc 0) ∷ (0, 1, pos 1) ∷ (0, 1, negsuc 1) ∷ none ∷ [];
    }
    -- MATCH FULL: the day is one of the key columns
    ∷ record {
      schema = calibrations 0 1 0 1;
      sent = begin ∷ insert 0 0 0 (calibrated (pos 10) (pos 20)) ∷ insert 1 0 2 (taken (pos 0)) ∷ insert 1 1 3 [] ∷ insert 1 2 1 (pos 0 ∷ pos 12 ∷ []) ∷ [];
      answered = none ∷ one ∷ (0, 1, pos 1) ∷ one ∷ (0, 1, pos 1) ∷ [];
    }
    -- "Days compare as signed numbers, folded or not"; names as they are marked. The unique key folds the first day: 41 and 61 (hexadecimal) are one
    ∷ record {
      schema = calibrations 7 0 1 0;
      sent =
          insert 0 0 0 (pos 0x4C ∷ pos 0x41 ∷ pos 0x43 ∷ [])
          ∷ insert 1 0 0 (pos 0x6C ∷ pos 0x42 ∷ [])
          ∷ insert 1 1 0 (pos 0x6C ∷ pos 0x62 ∷ [])
          ∷ update 0 0 0 (pos 0x6C ∷ pos 0x41 ∷ pos 0x63 ∷ [])
          ∷ insert 1 1 0 (pos 0x4C ∷ pos 0x62 ∷ [])
          ∷ update 0 0 0 (pos 0x6C ∷ pos 0x41 ∷ pos 0x43 ∷ [])
          ∷ insert 0 1 0 (pos 0x4C ∷ pos 0x62 ∷ pos 0x70 ∷ [])
          ∷ insert 0 1 0 (pos 0x4C ∷ pos 0x63 ∷ pos 0x70 ∷ [])
          ∷ insert 0 2 0 (pos 0x6C ∷ pos 0x43 ∷ pos 0x42 ∷ [])
          ∷ [];
      answered = one ∷ one ∷ refused 20 ∷ one ∷ one ∷ refused 18 ∷ refused 24 ∷ one ∷ refused 17 ∷ [];
    }
    -- days at the ends of the range; the last one is in no window
    ∷ record {
      schema = calibrations 0 0 1 0;
      sent = insert 0 0 0 (calibrated first last) ∷ insert 1 0 0 (taken first) ∷ insert 1 1 0 (taken last) ∷ insert 0 1 0 (calibrated last first) ∷ insert 0 1 0 (calibrated (pos 0) (pos 1)) ∷ [];
      answered = one ∷ one ∷ refused 20 ∷ refused 24 ∷ refused 24 ∷ [];
    }
    -- without a column for the end the key is broken: it has no orphans and no windows, and 23 refuses its use
    ∷ record {
      schema = endless;
      sent = insert 0 0 0 (taken (pos 10)) ∷ insert 1 0 0 (taken (pos 10)) ∷ update 0 0 0 (taken (pos 11)) ∷ [];
      answered = one ∷ refused 23 ∷ refused 23 ∷ [];
    }
    ∷ []

pub windowed_keys : Hold on_book windowed
unfolding on_book answers windowed
windowed_keys = refl

-- ---- an area that no calls led to

-- the end of the first calibration set to 16, two of them share day 15: its reading has two parents, and either may go, but not both
abbrev pub TwoParents : Turns → Type 0
TwoParents turns =
    answers_after turns (calibrations 0 0 0 0) (insert 0 0 0 (calibrated (pos 10) (pos 12)) ∷ insert 0 1 0 (calibrated (pos 15) (pos 20)) ∷ insert 1 0 0 (taken (pos 15)) ∷ []) 336 (pos 16) (delete 0 1 ∷ delete 0 0 ∷ []) ≡ one ∷ refused 20 ∷ []

pub two_parents : TwoParents on_book
unfolding on_book answers_after calibrations insert delete
two_parents = refl
