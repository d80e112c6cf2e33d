-- What comes of a text behind its header: whole frames in front of a fault, and bytes where the text is bytes. And each fault
-- has a mark of its own, which is no byte.
use Rattle.std.proofs.Common.{◌≡◌, ℕ, zero, suc, ◌+◌, ◌*◌, ◌<◌, ◌≤◌, ◌==◌, ◌&&◌, All, Bool, true, false, nat_lt, List, [], ◌∷◌, ◌++◌, length, take, drop, Some, None, Result, Ok, Err, refl, sym, ◌∙◌, ap, ap₂, arith, length-append}
use Rattle.std.specs.Prelude.{if◌then◌else◌}
use Rattle.std.proofs.lemmas.List.{length-take-le}
use Rattle.std.proofs.lemmas.List.Elements.{All-append, All-take, All-drop}
use Rattle.std.proofs.lemmas.Bool.Decides.{nat_tests}
use Rattle.m2v_y4m.specs.declared.answer.Y4mFault.{Y4mFault}
use Rattle.m2v_y4m.specs.declared.answer.Y4mKind.{Y4mKind}
use Rattle.m2v_y4m.specs.declared.answer.Y4mKind.TheVariants.{Magic, Line, Field, Size, Rate, Interlace, Chroma, Frame}
use Rattle.m2v_y4m.specs.declared.header.Y4mHeader.{Y4mHeader}
use Rattle.m2v_y4m.specs.declared.opening.Opening.{Opening}
use Rattle.m2v_y4m.specs.Texts.{onward}
use Rattle.m2v_y4m.specs.Header.{fault_at, opening}
use Rattle.m2v_y4m.specs.Frames.{Coming, Begins, behind_header, broken, in_frame, frame_line, at_line, in_steps, frames_from}
use Rattle.m2v_y4m.specs.Sources.{mark, kind_number}

-- ---- what comes behind a header

one_ok : (r : Result Opening Y4mFault) (x y : Opening) → r ≡ Ok x → r ≡ Ok y → x ≡ y
one_ok r x y f g = let e = sym f ∙ g in cc

-- A text begins with one header, and one thing comes behind it.
pub one_beginning : (text : List ℕ) (h k : Y4mHeader) (c d : Coming) → Begins text h c → Begins text k d → (h ≡ k) × (c ≡ d)
one_beginning text h k c d a b =
    let e = one_ok (opening text) (record { header = h; length = a.length }) (record { header = k; length = b.length }) a.opens b.opens in
    (ap (λ (o : Opening). o.header) e, a.comes ∙ ap (λ (o : Opening). behind_header o text) e ∙ sym b.comes)

-- ---- whole frames

-- raw bytes with a fault behind them are whole frames of a size
abbrev WholeBefore : ℕ → Y4mFault → Coming → Type 0
WholeBefore size f c = c.fault ≡ Some f → (k : ℕ) × (length c.raw ≡ k * size)

frame_whole : (size line : ℕ) (text : List ℕ) (behind : Coming) (f : Y4mFault) → WholeBefore size f behind → WholeBefore size f (in_frame size line size text behind)
unfolding in_frame
frame_whole size line text behind f before = by_end (length text == 0 && size == size) (nat_lt (length text) size) refl
  where
    by_end : (a b : Bool) → nat_lt (length text) size ≡ b
        → WholeBefore size f (if a then broken (fault_at Frame line) else if b then record { raw = text; fault = None } else record { raw = take size text ++ behind.raw; fault = behind.fault })
    by_end true b is e = (0, omega arith)
    by_end false true is e = absurd (cc)
    by_end false false is e =
        let w = before e in
        let fits : size ≤ length text = grind (arith, nat_tests) in
        (suc w.0, omega (arith, length-append (take size text) behind.raw, length-take-le size text fits, w.1))

in_whole : (steps size place : ℕ) (text : List ℕ) (f : Y4mFault) → WholeBefore size f (in_steps steps size place text)
unfolding in_steps at_line
in_whole zero size place text f e = absurd (cc)
in_whole (suc steps) size place [] f e = absurd (cc)
in_whole (suc steps) size place (b ∷ text) f e = by_line (λ place text. in_whole steps size place text f) (frame_line (b ∷ text)) e
  where
    by_line : ((place : ℕ) (text : List ℕ) → WholeBefore size f (in_steps steps size place text)) → (r : Result ℕ Y4mKind)
        → WholeBefore size f (at_line size place (b ∷ text) r (λ line. in_steps steps size (onward (onward place line) size) (drop (line + size) (b ∷ text))))
    by_line behind (Err kind) e = (0, omega arith)
    by_line behind (Ok n) e =
        frame_whole size place (drop n (b ∷ text)) (in_steps steps size (onward (onward place n) size) (drop (n + size) (b ∷ text))) f
        (behind (onward (onward place n) size) (drop (n + size) (b ∷ text))) e

-- Raw bytes in front of a fault are whole frames.
pub whole_before : (size place : ℕ) (text : List ℕ) (f : Y4mFault) → (frames_from size place text).fault ≡ Some f → (k : ℕ) × (length (frames_from size place text).raw ≡ k * size)
unfolding frames_from
whole_before size place text f = in_whole (length text) size place text f

-- ---- bytes

module _ (P : ℕ → Type 0) where
  frame_all : (size line : ℕ) (text : List ℕ) (behind : Coming) → All P text → All P behind.raw → All P (in_frame size line size text behind).raw
  unfolding in_frame
  frame_all size line text behind here after = by_end (length text == 0 && size == size) (nat_lt (length text) size)
    where
      by_end : (a b : Bool)
          → All P (if a then broken (fault_at Frame line) else if b then record { raw = text; fault = None } else record { raw = take size text ++ behind.raw; fault = behind.fault }).raw
      by_end true b = λ k d less. absurd (omega arith)
      by_end false true = here
      by_end false false = All-append P (take size text) behind.raw (All-take P size text here) after

  in_all : (steps size place : ℕ) (text : List ℕ) → All P text → All P (in_steps steps size place text).raw
  unfolding in_steps at_line
  in_all zero size place text all = λ k d less. absurd (omega arith)
  in_all (suc steps) size place [] all = λ k d less. absurd (omega arith)
  in_all (suc steps) size place (b ∷ text) all = by_line (in_all steps size) (frame_line (b ∷ text))
    where
      by_line : ((place : ℕ) (text : List ℕ) → All P text → All P (in_steps steps size place text).raw) → (r : Result ℕ Y4mKind)
          → All P (at_line size place (b ∷ text) r (λ line. in_steps steps size (onward (onward place line) size) (drop (line + size) (b ∷ text)))).raw
      by_line behind (Err kind) = λ k d less. absurd (omega arith)
      by_line behind (Ok n) =
          frame_all size place (drop n (b ∷ text)) (in_steps steps size (onward (onward place n) size) (drop (n + size) (b ∷ text)))
          (All-drop P n (b ∷ text) all) (behind (onward (onward place n) size) (drop (n + size) (b ∷ text)) (All-drop P (n + size) (b ∷ text) all))

  -- What holds of each byte of a text holds of the raw bytes that come of it.
  pub comes_all : (size place : ℕ) (text : List ℕ) → All P text → All P (frames_from size place text).raw
  unfolding frames_from
  comes_all size place text = in_all (length text) size place text

-- ---- marks

kind_at : ℕ → Y4mKind
kind_at zero = Magic
kind_at (suc zero) = Line
kind_at (suc (suc zero)) = Field
kind_at (suc (suc (suc zero))) = Size
kind_at (suc (suc (suc (suc zero)))) = Rate
kind_at (suc (suc (suc (suc (suc zero))))) = Interlace
kind_at (suc (suc (suc (suc (suc (suc zero)))))) = Chroma
kind_at (suc (suc (suc (suc (suc (suc (suc n))))))) = Frame

again : (kind : Y4mKind) → kind_at (kind_number kind) ≡ kind
unfolding kind_at
again Magic = refl
again Line = refl
again Field = refl
again Size = refl
again Rate = refl
again Interlace = refl
again Chroma = refl
again Frame = refl

small : (kind : Y4mKind) → kind_number kind < 8
small Magic = omega arith
small Line = omega arith
small Field = omega arith
small Size = omega arith
small Rate = omega arith
small Interlace = omega arith
small Chroma = omega arith
small Frame = omega arith

-- A mark is no byte.
pub no_byte : (f : Y4mFault) → 256 ≤ mark f
unfolding mark
no_byte f = omega arith

-- Each fault has a mark of its own.
pub one_mark : (f g : Y4mFault) → mark f ≡ mark g → f ≡ g
unfolding mark
one_mark f g is =
    let number : kind_number f.kind ≡ kind_number g.kind = omega (arith, is, small f.kind, small g.kind) in
    let place : f.place ≡ g.place = omega (arith, is, number) in
    ap₂ (λ (kind : Y4mKind) (place : ℕ). record { kind = kind; place = place }) (sym (again f.kind) ∙ ap kind_at number ∙ again g.kind) place
