-- How the bits of a stream's pieces come, and the pictures among the others that its pieces tell.
use Rattle.std.proofs.Common.{◌≡◌, ℕ, ◌+◌, ◌*◌, Bool, true, false, List, [], ◌∷◌, ◌++◌, length, map, Option, Some, None, refl, sym, ap, subst, ◌∙◌, arith}
use Rattle.std.specs.Prelude.{if◌then◌else◌}
use Rattle.std.proofs.lemmas.List.{append-nil}
use Rattle.std.proofs.lemmas.List.Sums.{sum_by-cons}
use Rattle.m2v_model.specs.declared.state.Sequence.{Sequence}
use Rattle.m2v_model.specs.declared.notes.PictureNote.{PictureNote}
use Rattle.m2v_model.specs.Pictures.{Picture, Events, sequence_header, group_header, coded_picture, pictures_in}
use Rattle.m2v_model.specs.PieceNotes.{note_of}
use Rattle.m2v_model.specs.Lawful.{Numbered, numbered, all_numbered}
use Rattle.m2v_model.specs.Buffering.{bits_of_piece, code_bits}
use Rattle.m2v_model.specs.ByPieces.{Between, IsOne}
use Rattle.m2v_audit.specs.declared.account.Due.{Due}
use Rattle.m2v_audit.specs.Account.{Event, picture, more, read}
use Rattle.m2v_audit.specs.Times.{Times, after}
use Rattle.m2v_audit.proofs.m2v_check.Telling.{first_in, last_in, AreHeaded}
use Rattle.m2v_audit.proofs.m2v_check.Ordered.{PictureLast}
use Rattle.m2v_audit.proofs.m2v_check.Listed.{all_bits}
use Rattle.m2v_audit.proofs.m2v_check.Ruling.{numbered_none}
use Rattle.m2v_law_audit.specs.Accounts.{due_at, dues_from}
use Rattle.m2v_law_audit.proofs.AccountReading.{Turns, HasHeader, header_stays}

-- ---- how bits come

-- a picture whose piece begins at a byte of the input, as it is noted
abbrev pub note_at : ℕ → List ℕ → Numbered → PictureNote
note_at at p n = note_of (8 * at + code_bits p) n.picture

-- the bits of pieces that have these pictures: piece i has picture i, and behind the last picture no other one comes
abbrev pub bits_of : Times → ℕ → List (List ℕ) → List Numbered → List Event
bits_of t at [] ns = []
bits_of t at (p ∷ ps) [] = more (bits_of_piece p) ∷ bits_of t (at + length p) ps []
bits_of t at (p ∷ ps) (n ∷ ns) = picture (due_at t at (bits_of_piece p) p n) ∷ bits_of (after t n.sequence (note_at at p n)) (at + length p) ps ns

-- the last picture has all bits that follow
last_read : (t u : Times) (at end bits : ℕ) (p : List ℕ) (n : Numbered) (ps : List (List ℕ)) → read (Some (due_at t at bits p n)) (bits_of u end ps []) ≡ due_at t at (bits + all_bits ps) p n ∷ []
unfolding read
last_read t u at end bits p n [] = ap (λ (b : ℕ). due_at t at b p n ∷ []) (omega arith)
last_read t u at end bits p n (q ∷ ps) =
    let count : (bits + bits_of_piece q) + all_bits ps ≡ bits + all_bits (q ∷ ps) = omega (arith, sum_by-cons (λ (x : ℕ). x) (bits_of_piece q) (map bits_of_piece ps)) in
    last_read t u at (end + length q) (bits + bits_of_piece q) p n ps ∙ ap (λ (b : ℕ). due_at t at b p n ∷ []) count

-- they are the stream's pictures, as its buffer sees them
pub dues_read : (t : Times) (at : ℕ) (p : List ℕ) (ps : List (List ℕ)) (n : Numbered) (ns : List Numbered)
    → read (Some (due_at t at (bits_of_piece p) p n)) (bits_of (after t n.sequence (note_at at p n)) (at + length p) ps ns) ≡ dues_from t at (p ∷ ps) (n ∷ ns)
unfolding read dues_from
dues_read t at p ps n [] =
    last_read t (after t n.sequence (note_at at p n)) at (at + length p) (bits_of_piece p) p n ps
    ∙ ap (λ (b : ℕ). due_at t at b p n ∷ []) (sym (sum_by-cons (λ (x : ℕ). x) (bits_of_piece p) (map bits_of_piece ps)))
dues_read t at p [] n (m ∷ ns) = refl
dues_read t at p (q ∷ ps) n (m ∷ ns) = ap (λ (ds : List Due). due_at t at (bits_of_piece p) p n ∷ ds) (dues_read (after t n.sequence (note_at at p n)) (at + length p) q ps m ns)

-- ---- pictures among the others

-- one picture, and what follows it
pub record OneRest (o : Option Sequence) (number : ℕ) (own : Events) (q : Picture) (es : Events) (ns : List Numbered) : Type 0 where
  pub first : Numbered
  pub group : ℕ
  pub first_in_group : Bool
  pub frames : ℕ
  pub is : ns ≡ first ∷ numbered (last_in o own) group first_in_group (number + 1) frames es
  pub number_is : first.number ≡ number
  pub same : q ≡ first.picture
  pub headed : last_in o own ≡ Some first.sequence

pub rest_one : (o : Option Sequence) (group : ℕ) (first_in_group : Bool) (number frames : ℕ) (own es : Events) (q : Picture) → PictureLast own → AreHeaded o own → pictures_in own ≡ q ∷ []
    → OneRest o number own q es (numbered o group first_in_group number frames (own ++ es))
unfolding numbered
rest_one o group first_in_group number frames [] es q last headed e = absurd cc
rest_one o group first_in_group number frames (sequence_header s ∷ own) es q last headed e =
    let r = rest_one (Some s) group first_in_group number frames own es q last headed e in
    record { first = r.first; group = r.group; first_in_group = r.first_in_group; frames = r.frames; is = r.is; number_is = r.number_is; same = r.same; headed = r.headed }
rest_one o group first_in_group number frames (group_header g ∷ own) es q last headed e =
    let r = rest_one o (group + 1) true number frames own es q last headed e in
    record { first = r.first; group = r.group; first_in_group = r.first_in_group; frames = r.frames; is = r.is; number_is = r.number_is; same = r.same; headed = r.headed }
rest_one None group first_in_group number frames (coded_picture p ∷ own) es q last headed e = let none = headed.0 in absurd cc
rest_one (Some s) group first_in_group number frames (coded_picture p ∷ own) es q last headed e =
    let n : Numbered = record { number = number; sequence = s; group = group; first_in_group = first_in_group; frame = frames; picture = p } in
    let count : ℕ = if p.ends_frame then frames + 1 else frames in
    let same : p ≡ q = cc in
    let stays : last_in (Some s) own ≡ Some s = ap (last_in (Some s)) last in
    record {
      first = n;
      group = group;
      first_in_group = false;
      frames = count;
      is = ap (λ (l : Events). n ∷ numbered (Some s) group false (number + 1) count (l ++ es)) last ∙ ap (λ (z : Option Sequence). n ∷ numbered z group false (number + 1) count es) (sym stays);
      number_is = refl;
      same = sym same;
      headed = stays;
    }

-- behind a piece without a picture no other one comes
pub none_left : (n : ℕ) (b : Between) (ps : List (List ℕ)) (es : Events) → n ≡ 0 → IsOne n ps → Turns b ps es → (ps ≡ []) × (es ≡ [])
none_left n b [] es e one turns = (refl, turns)
none_left n b (p ∷ ps) es e one turns = absurd (omega (arith, e, one))

pub none_numbered : (o : Option Sequence) (group : ℕ) (first_in_group : Bool) (number frames : ℕ) (own rest es : Events) → es ≡ own ++ rest → rest ≡ [] → pictures_in own ≡ [] → numbered o group first_in_group number frames es ≡ []
none_numbered o group first_in_group number frames own rest es are none e =
    ap (numbered o group first_in_group number frames) (are ∙ ap (λ (l : Events). own ++ l) none ∙ append-nil own)
    ∙ numbered_none o group first_in_group number frames own e

-- ---- the first piece

-- its sequence header is the first one of the stream, and its picture the first one
pub record FirstSo (own rest es : Events) (q : Picture) : Type 0 where
  pub has : HasHeader own
  pub first : first_in None es ≡ Some has.header
  pub one : OneRest None 0 own q rest (all_numbered es)

pub first_so : (own rest es : Events) (q : Picture) → HasHeader own → es ≡ own ++ rest → PictureLast own → AreHeaded None own → pictures_in own ≡ q ∷ [] → FirstSo own rest es q
first_so own rest es q h are last headed e =
    record {
      has = h;
      first = header_stays own rest es are h;
      one = subst (λ (l : Events). OneRest None 0 own q rest (all_numbered l)) (sym are) (rest_one None 0 false 0 0 own rest q last headed e);
    }
