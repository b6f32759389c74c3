-- Areas that hold a book.
-- Assumes nothing.
use mathlib.Core.Path.{◌≡◌, refl, sym, ◌∙◌, ap}
use mathlib.Core.List.{List}
use Prim.Native.Nat.{◌≤◌}
use native.Mathlib.Omega.{arith}
use lib.IntN.{ℤ}
use lib.ListN.{length}
use Rattle.schema.specs.Records.{Schema}
use Rattle.schema.specs.Sizes.{area_size}
use Rattle.rules.specs.Refusals.{Answer}
use Rattle.rules.specs.Book.{Work, Book, with_work}
use Rattle.rules.specs.Statement.{Turn}
use Rattle.rules.specs.Area.{words, view, legible, on_words}
use Rattle.bridge.specs.Fit.{work_of, Fit, Keeps, Holds}
use Rattle.bridge.proofs.Views.{words_view}
use Rattle.bridge.proofs.RoundTrip.{Formed, view_words, legible_words, words_length}

-- a book's words, written
pub holds_words : {s : Schema} {a : List ℤ} {b : Book} → Formed s b → a ≡ words b → Holds s a b
holds_words {s} f e =
    record {
      fit = record { size = ap length e ∙ words_length f; legible_is = ap (legible s) e ∙ legible_words f };
      is = ap (view s) e ∙ view_words f;
    }

-- every word is the book's
pub holds_all : {s : Schema} {a : List ℤ} {b : Book} → Holds s a b → a ≡ words b
holds_all {s} {a} h = sym (words_view s a h.fit.size h.fit.legible_is) ∙ ap words h.is

pub holds_view : {s : Schema} {a : List ℤ} → Fit s a → Holds s a (view s a)
holds_view f = record { fit = f; is = refl }

-- the header, the kept numbers and the levels are there
pub area_long : {s : Schema} {a : List ℤ} → Fit s a → 333 ≤ length a
unfolding area_size
area_long f = omega (arith, f.size)

-- ---- steps, one after another

pub then_step : {s : Schema} {a a' : List ℤ} {b : Book} (P : Book → Book) → Holds s a b → Holds s a' (P (view s a)) → Holds s a' (P b)
then_step P h k = record { fit = k.fit; is = k.is ∙ ap P h.is }

-- the work alone changed
pub then_work : {s : Schema} {a a' : List ℤ} {b : Book} → Holds s a b → (g : Work → Work) → (work_of s a' ≡ g (work_of s a)) × Keeps s a a' → Holds s a' (with_work (g b.work) b)
unfolding work_of
then_work {s} {a} {a'} h g (e, k) =
    record { fit = k.fit; is = k.rest ∙ ap (λ (w : Work). with_work w (view s a)) e ∙ ap (λ (b : Book). with_work (g b.work) b) h.is }

-- ---- turns

-- a turn whose book the area then holds
pub turn_words : {s : Schema} {a : List ℤ} {t : Turn} {r : Answer} {b : Book} → Holds s a b → t ≡ (r, b) → (r, a) ≡ on_words t
turn_words {a = a} {t = t} {r = r} {b = b} h e = ap {B = Answer × List ℤ} (λ x. (r, x)) (holds_all h) ∙ sym (ap on_words e)

-- a turn that writes nothing
pub turn_same : {s : Schema} {a : List ℤ} {t : Turn} {r : Answer} → Fit s a → t ≡ (r, view s a) → (r, a) ≡ on_words t
turn_same f e = turn_words (holds_view f) e
