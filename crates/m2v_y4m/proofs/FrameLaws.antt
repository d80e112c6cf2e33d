-- What comes of a text: how it goes on behind a line, and behind some bytes of a frame.
use Rattle.std.proofs.Common.{◌≡◌, ℕ, zero, suc, ◌+◌, ◌-◌, ◌<◌, ◌≤◌, ◌==◌, Bool, true, false, ◌&&◌, List, [], ◌∷◌, ◌++◌, length, take, drop, refl, sym, ◌∙◌, ap, ap₂, arith, Option, Some, None, Result, Ok, Err, nat_lt, append_assoc, length-drop}
use Rattle.std.specs.Prelude.{if◌then◌else◌}
use Rattle.std.proofs.lemmas.List.{drop-drop, take-append-drop}
use Rattle.std.proofs.lemmas.Bool.Decides.{nat_tests}
use Rattle.std.proofs.Math.Seq.{take-add}
use Rattle.m2v_y4m.specs.declared.answer.Y4mKind.{Y4mKind}
use Rattle.m2v_y4m.specs.declared.answer.Y4mKind.TheVariants.{Frame}
use Rattle.m2v_y4m.specs.Texts.{line_length, begins, onward}
use Rattle.m2v_y4m.specs.Header.{fault_at}
use Rattle.m2v_y4m.specs.Frames.{Coming, nothing, broken, with_front, in_frame, frame_line, frame_line_at, frame_word, at_line, in_steps, frames_from}
use Rattle.m2v_y4m.specs.Sources.{coming_at}

-- ---- lines

-- a frame line has some bytes
pub line_some : (text : List ℕ) (n : ℕ) → frame_line text ≡ Ok n → 1 ≤ n
unfolding frame_line
line_some text n is = by_length (line_length text) is
  where
    by_test : (k : ℕ) (b : Bool) → (if b then Ok (k + 1) else Err Frame) ≡ Ok n → 1 ≤ n
    by_test k true eq = let e : k + 1 ≡ n = cc in omega (arith, e)
    by_test k false eq = absurd (cc)

    by_length : (o : Option ℕ) → frame_line_at text o ≡ Ok n → 1 ≤ n
    by_length None eq = absurd (cc)
    by_length (Some k) eq = by_test k (begins frame_word text) eq

-- what comes behind a line counts only where there is one
pub line_same : (size place : ℕ) (text : List ℕ) (r : Result ℕ Y4mKind) (f g : ℕ → Coming) → ((n : ℕ) → r ≡ Ok n → f n ≡ g n) → at_line size place text r f ≡ at_line size place text r g
unfolding at_line
line_same size place text (Err kind) f g same = refl
line_same size place text (Ok n) f g same = ap (in_frame size place size (drop n text)) (same n refl)

-- as many steps as there are bytes are enough
pub enough : (s t size place : ℕ) (text : List ℕ) → length text ≤ s → length text ≤ t → in_steps s size place text ≡ in_steps t size place text
unfolding in_steps
enough zero zero size place text ls lt = refl
enough zero (suc t) size place [] ls lt = refl
enough zero (suc t) size place (b ∷ text) ls lt = absurd (omega arith)
enough (suc s) zero size place [] ls lt = refl
enough (suc s) zero size place (b ∷ text) ls lt = absurd (omega arith)
enough (suc s) (suc t) size place [] ls lt = refl
enough (suc s) (suc t) size place (b ∷ text) ls lt =
    line_same size place (b ∷ text) (frame_line (b ∷ text)) _ _
    (λ n is. let some = line_some (b ∷ text) n is in
    enough s t size (onward (onward place n) size) (drop (n + size) (b ∷ text))
    (omega (arith, length-drop (n + size) (b ∷ text), some)) (omega (arith, length-drop (n + size) (b ∷ text), some)))

-- at the end of a text nothing comes
pub from_none : (size place : ℕ) → frames_from size place [] ≡ nothing
unfolding frames_from in_steps
from_none size place = refl

-- a line, and what comes behind it
pub from_line : (size place : ℕ) (text : List ℕ) → 1 ≤ length text
    → frames_from size place text ≡ at_line size place text (frame_line text) (λ n. frames_from size (onward (onward place n) size) (drop (n + size) text))
unfolding frames_from in_steps
from_line size place [] some = absurd (omega arith)
from_line size place (b ∷ text) some =
    line_same size place (b ∷ text) (frame_line (b ∷ text)) _ _
    (λ n is. enough (length text) (length (drop (n + size) (b ∷ text))) size (onward (onward place n) size) (drop (n + size) (b ∷ text))
    (omega (arith, length-drop (n + size) (b ∷ text), line_some (b ∷ text) n is)) (omega arith))

-- ---- states

-- before a line
pub at_edge : (size line place : ℕ) (text : List ℕ) → coming_at size line 0 place text ≡ frames_from size place text
unfolding coming_at
at_edge size line place text = refl

-- a broken line
pub coming_broken : (size line place : ℕ) (text : List ℕ) (kind : Y4mKind) → 1 ≤ length text → frame_line text ≡ Err kind
    → coming_at size line 0 place text ≡ broken (fault_at kind place)
unfolding coming_at at_line
coming_broken size line place text kind some is = from_line size place text some ∙ rw is refl

-- a line that is as said
pub coming_line : (size line place n : ℕ) (text : List ℕ) → 1 ≤ size → 1 ≤ length text → frame_line text ≡ Ok n
    → coming_at size line 0 place text ≡ coming_at size place size (onward place n) (drop n text)
unfolding coming_at at_line
coming_line size line place n text big some is =
    let not_none : (size == 0) ≡ false = grind (arith, nat_tests) in
    from_line size place text some ∙ rw (is, not_none, drop-drop size n text) refl

-- ---- inside a frame

-- at the end with no byte of the frame, its line is broken
pub coming_unbegun : (size line place : ℕ) → 1 ≤ size → coming_at size line size place [] ≡ broken (fault_at Frame line)
unfolding coming_at in_frame
coming_unbegun size line place big =
    let not_none : (size == 0) ≡ false = grind (arith, nat_tests) in
    let same : (size == size) ≡ true = grind (arith, nat_tests) in
    rw (not_none, same) refl

-- at the end later, nothing comes
pub coming_ended : (size line rest place : ℕ) → rest < size → coming_at size line rest place [] ≡ nothing
unfolding coming_at in_frame
coming_ended size line rest place less = by_rest (rest == 0) refl
  where
    by_rest : (b : Bool) → (rest == 0) ≡ b → coming_at size line rest place [] ≡ nothing
    by_rest true is = rw is (from_none size place)
    by_rest false is =
        let other : (rest == size) ≡ false = grind (arith, nat_tests) in
        let more : nat_lt 0 rest ≡ true = grind (arith, nat_tests) in
        rw (is, other, more) refl

and_false : (b : Bool) → (b && false) ≡ false
and_false true = refl
and_false false = refl

in_frame_later : (size line rest n : ℕ) (text : List ℕ) (behind : Coming) → 0 < n → n < rest → rest ≤ size → n ≤ length text
    → in_frame size line rest text behind ≡ with_front (take n text) (in_frame size line (rest - n) (drop n text) behind)
unfolding in_frame
in_frame_later size line rest n text behind some less most fits = by_end (nat_lt (length text) rest) refl
  where
    left : length (drop n text) ≡ length text - n
    left = length-drop n text

    not_empty : (length text == 0) ≡ false
    not_empty = grind (arith, nat_tests)

    whole : rest ≡ n + (rest - n)
    whole = omega arith

    not_whole : (rest - n == size) ≡ false
    not_whole = grind (arith, nat_tests)

    by_end : (b : Bool) → nat_lt (length text) rest ≡ b
        → in_frame size line rest text behind ≡ with_front (take n text) (in_frame size line (rest - n) (drop n text) behind)
    by_end true is =
        let later : nat_lt (length (drop n text)) (rest - n) ≡ true = rw left (grind (arith, nat_tests)) in
        rw (is, not_empty, not_whole, later, and_false (length (drop n text) == 0)) (ap (λ raw. record { raw = raw; fault = None }) (sym (take-append-drop n text)))
    by_end false is =
        let later : nat_lt (length (drop n text)) (rest - n) ≡ false = rw left (grind (arith, nat_tests)) in
        let split : take rest text ≡ take n text ++ take (rest - n) (drop n text) = ap (λ k. take k text) whole ∙ take-add n (rest - n) text in
        rw (is, not_empty, not_whole, later, and_false (length (drop n text) == 0))
        (ap (λ raw. record { raw = raw; fault = behind.fault }) (ap (λ l. l ++ behind.raw) split ∙ append_assoc (take n text) (take (rest - n) (drop n text)) behind.raw))

onward_more : (place n m : ℕ) → onward (onward place n) m ≡ onward place (n + m)
onward_more place n m = omega arith

pub coming_on : (size line rest place n : ℕ) (text : List ℕ) → 0 < n → n ≤ rest → rest ≤ size → n ≤ length text
    → coming_at size line rest place text ≡ with_front (take n text) (coming_at size line (rest - n) (onward place n) (drop n text))
unfolding coming_at in_frame
coming_on size line rest place n text some within most fits = by_end (n == rest) refl
  where
    not_edge : (rest == 0) ≡ false
    not_edge = grind (arith, nat_tests)

    not_empty : (length text == 0) ≡ false
    not_empty = grind (arith, nat_tests)

    by_end : (b : Bool) → (n == rest) ≡ b
        → coming_at size line rest place text ≡ with_front (take n text) (coming_at size line (rest - n) (onward place n) (drop n text))
    by_end true is =
        let same : n ≡ rest = grind (arith, nat_tests) in
        let edge : (rest - n == 0) ≡ true = grind (arith, nat_tests) in
        let here : nat_lt (length text) rest ≡ false = grind (arith, nat_tests) in
        rw (not_edge, not_empty, here, edge) (ap (λ k. with_front (take k text) (frames_from size (onward place k) (drop k text))) (sym same))
    by_end false is =
        let other : n < rest = grind (arith, nat_tests) in
        let edge : (rest - n == 0) ≡ false = grind (arith, nat_tests) in
        let sum : n + (rest - n) ≡ rest = omega arith in
        let behind : frames_from size (onward place rest) (drop rest text) ≡ frames_from size (onward (onward place n) (rest - n)) (drop (rest - n) (drop n text)) =
        ap₂ (frames_from size) (ap (onward place) (sym sum) ∙ sym (onward_more place n (rest - n))) (ap (λ k. drop k text) (sym sum) ∙ sym (drop-drop (rest - n) n text)) in
        rw (not_edge, edge) (in_frame_later size line rest n text _ some other most fits
        ∙ ap (λ next. with_front (take n text) (in_frame size line (rest - n) (drop n text) next)) behind)
