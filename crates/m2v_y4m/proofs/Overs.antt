-- Where nothing comes of a text any more, nothing is left of it.
use Rattle.std.proofs.Common.{◌≡◌, ℕ, suc, zero, ◌+◌, ◌≤◌, ◌==◌, Bool, true, false, nat_lt, List, [], ◌∷◌, ◌++◌, length, take, drop, Option, Some, None, Result, Ok, Err, ap, arith, refl}
use Rattle.std.specs.Prelude.{if◌then◌else◌}
use Rattle.std.proofs.lemmas.Bool.Decides.{nat_tests}
use Rattle.m2v_port.specs.Port.{IsAtEnd}
use Rattle.m2v_y4m.specs.declared.answer.Y4mFault.{Y4mFault}
use Rattle.m2v_y4m.specs.declared.answer.Y4mKind.{Y4mKind}
use Rattle.m2v_y4m.specs.declared.answer.Y4mKind.TheVariants.{Frame}
use Rattle.m2v_y4m.specs.Texts.{onward}
use Rattle.m2v_y4m.specs.Header.{fault_at}
use Rattle.m2v_y4m.specs.Frames.{Coming, nothing, broken, in_frame, frame_line, at_line, in_steps, frames_from, size_of}
use Rattle.m2v_y4m.specs.Sources.{Standing, coming_at, unless_broken, coming, told_left}
use Rattle.m2v_y4m.specs.Rules.{IsHeader}
use Rattle.m2v_y4m.proofs.SizeLaws.{size_some}
use Rattle.m2v_y4m.proofs.Steps.{is_over}

-- a fault is something
not_broken : (f : Y4mFault) → broken f ≡ nothing → ⊥
not_broken f is =
    let fault : Some f ≡ None = ap (λ (c : Coming). c.fault) is in
    absurd (cc fault)

no_byte : (b : ℕ) (xs : List ℕ) → b ∷ xs ≡ [] → ⊥
no_byte b xs is = absurd (cc is)

-- inside a frame nothing comes of a text that has a byte
frame_none : (size line rest : ℕ) (text : List ℕ) (behind : Coming) → 1 ≤ rest → in_frame size line rest text behind ≡ nothing → text ≡ []
unfolding in_frame
frame_none size line rest [] behind some is = refl
frame_none size line zero (b ∷ text) behind some is = absurd (omega (arith, some))
frame_none size line (suc rest) (b ∷ text) behind some is = by_end (nat_lt (length (b ∷ text)) (suc rest)) (rw not_none at is)
  where
    not_none : (length (b ∷ text) == 0) ≡ false
    not_none = grind (arith, nat_tests)

    by_end : (less : Bool) → (if less then record { raw = b ∷ text; fault = None } else record { raw = (b ∷ take rest text) ++ behind.raw; fault = behind.fault }) ≡ nothing
        → b ∷ text ≡ []
    by_end true e = ap (λ (c : Coming). c.raw) e
    by_end false e = absurd (no_byte b (take rest text ++ behind.raw) (ap (λ (c : Coming). c.raw) e))

-- behind a frame line something comes, be it a fault
line_some : (size line : ℕ) (text : List ℕ) (behind : Coming) → 1 ≤ size → in_frame size line size text behind ≡ nothing → ⊥
unfolding in_frame
line_some size line [] behind some is =
    let same : (size == size) ≡ true = grind (arith, nat_tests) in
    not_broken (fault_at Frame line) (rw same at is)
line_some size line (b ∷ text) behind some is = no_byte b text (frame_none size line size (b ∷ text) behind some is)

frames_none : (size place : ℕ) (text : List ℕ) → 1 ≤ size → frames_from size place text ≡ nothing → text ≡ []
unfolding frames_from in_steps at_line
frames_none size place [] some is = refl
frames_none size place (b ∷ text) some is = absurd (by_line (frame_line (b ∷ text)) is)
  where
    by_line : (r : Result ℕ Y4mKind) → at_line size place (b ∷ text) r (λ line. in_steps (length text) size (onward (onward place line) size) (drop (line + size) (b ∷ text))) ≡ nothing → ⊥
    by_line (Err kind) e = not_broken (fault_at kind place) e
    by_line (Ok n) e = line_some size place (drop n (b ∷ text)) _ some e

at_none : (size line rest place : ℕ) (text : List ℕ) → 1 ≤ size → coming_at size line rest place text ≡ nothing → text ≡ []
unfolding coming_at
at_none size line rest place text some is = by_rest (rest == 0) refl is
  where
    by_rest : (b : Bool) → (rest == 0) ≡ b
        → (if b then frames_from size place text else in_frame size line rest text (frames_from size (onward place rest) (drop rest text))) ≡ nothing → text ≡ []
    by_rest true test e = frames_none size place text some e
    by_rest false test e = frame_none size line rest text (frames_from size (onward place rest) (drop rest text)) (grind (arith, nat_tests)) e

behind_none : (xs ys : List ℕ) → xs ++ ys ≡ [] → ys ≡ []
behind_none [] ys is = is
behind_none (x ∷ xs) ys is = absurd (no_byte x (xs ++ ys) is)

-- Where nothing is left of a source of the frames, nothing is left of the source of the text.
pub over_behind : (s : Standing) (left : Option (List ℕ)) → IsHeader s.header → IsAtEnd (told_left s left) → IsAtEnd left
unfolding coming
over_behind s None header end = tt
over_behind s (Some text) header end = by_fault s.fault (is_over s (Some text) end)
  where
    by_fault : (f : Option Y4mFault) → unless_broken f (coming_at (size_of s.header) s.line s.rest s.place (s.unread ++ text)) ≡ nothing → text ≡ []
    by_fault None e = behind_none s.unread text (at_none (size_of s.header) s.line s.rest s.place (s.unread ++ text) (size_some s.header header) e)
    by_fault (Some fault) e = absurd (not_broken fault e)
