-- What a piece does to the account, and to what the account of later pieces goes by.
use Rattle.std.proofs.Common.{◌≡◌, ℕ, ◌+◌, ◌-◌, ◌*◌, List, [], ◌∷◌, length, Option, Some, None, option_map, refl, sym, ap, subst, ◌∙◌, arith}
use Rattle.m2v_model.specs.declared.state.Sequence.{Sequence}
use Rattle.m2v_model.specs.declared.notes.PictureNote.{PictureNote}
use Rattle.m2v_model.specs.Pictures.{Events, pictures_in}
use Rattle.m2v_model.specs.Pieces.{zeros_last}
use Rattle.m2v_model.specs.PieceNotes.{PieceNotes, note_of, first_note, notes_of}
use Rattle.m2v_model.specs.Lawful.{Numbered}
use Rattle.m2v_model.specs.Buffering.{bits_of_piece, code_bits}
use Rattle.m2v_audit.specs.m2v_check.declared.coded.CodedPicture.{CodedPicture}
use Rattle.m2v_audit.specs.declared.account.Due.{Due}
use Rattle.m2v_audit.specs.declared.auditing.Auditing.{Auditing}
use Rattle.m2v_audit.specs.Account.{Account, with_more, after_settled}
use Rattle.m2v_audit.specs.Auditing.{longer, with_headers, coded, counted, with_told, with_place, account_by, with_coded, with_note, with_others, pictured, with_ending, settled_by, with_settled, cleared, fronted, after_piece}
use Rattle.m2v_audit.specs.Front.{front_of}
use Rattle.m2v_audit.specs.Others.{others_of}
use Rattle.m2v_audit.specs.Times.{Times, time_of, after}
use Rattle.m2v_audit.proofs.m2v_check.Telling.{last_in}
use Rattle.m2v_law_audit.specs.Found.{settled_in, piece_removals}
use Rattle.m2v_law_audit.specs.Accounts.{due_at}
use Rattle.m2v_law_audit.proofs.PartsKept.{Untouched, untouched_in, all_headers, placing}
use Rattle.m2v_law_audit.proofs.AccountReading.{begun_at}
use Rattle.m2v_law_audit.proofs.EventsFront.{Fronts, last_sequence}

-- ---- what the account goes by

-- the first sequence header and the last one, how many pictures came, what is kept of their times, and the account
pub record Stands (a : Auditing) (first last : Option Sequence) (number : ℕ) (times : Times) (account : Option Account) : Type 0 where
  pub first_is : a.first ≡ first
  pub last_is : a.sequence ≡ last
  pub number_is : a.pictures ≡ number
  pub times_are : a.times ≡ times
  pub account_is : a.account ≡ account

-- with the last sequence header that stands then, where the others are as they were
untouched_stands : (a b : Auditing) (f o : Option Sequence) (k : ℕ) (t : Times) (x : Option Account) → untouched_in b ≡ untouched_in a → Stands a f o k t x → Stands b f b.sequence k t x
untouched_stands a b f o k t x e h = record {
  first_is = ap (λ (y : Untouched). y.0) e ∙ h.first_is;
  last_is = refl;
  number_is = ap (λ (y : Untouched). y.2) e ∙ h.number_is;
  times_are = ap (λ (y : Untouched). y.3) e ∙ h.times_are;
  account_is = ap (λ (y : Untouched). y.4) e ∙ h.account_is;
}

-- ---- a picture

-- where its frame stands in its group is of no matter
placed_stands : (a : Auditing) (p : CodedPicture) (f o : Option Sequence) (k : ℕ) (t : Times) (x : Option Account) → Stands a f o k t x → Stands (with_place a p) f o k t x
placed_stands a p f o k t x h =
    let e = placing a p in
    subst (λ (s : Option Sequence). Stands (with_place a p) f s k t x) (e.1 ∙ h.last_is) (untouched_stands a (with_place a p) f o k t x e.0 h)

-- a picture as the buffer sees it, with its number and what is kept of the times before it
abbrev due_by : ℕ → Times → Sequence → PictureNote → ℕ → ℕ → Due
due_by k t s n place bytes = record {
  number = k;
  bit = n.code_end - 32;
  bits = 8 * bytes;
  code_bits = n.code_end - 8 * place;
  units = time_of t s n;
  delay = n.info.vbv_delay;
}

coded_stands : (a : Auditing) (s : Sequence) (n : PictureNote) (place bytes zeros : ℕ) (f o : Option Sequence) (k : ℕ) (t : Times) (x : Option Account) → Stands a f o k t x
    → Stands (with_coded a (coded a s n) place bytes zeros) f o (k + 1) (after t s n) (account_by x f n (due_by k t s n place bytes))
coded_stands a s n place bytes zeros f o k t x h =
    let p = coded a s n in
    let b = with_told (counted a p) p bytes zeros in
    let counted_stands : Stands b f o (k + 1) t x = record {
      first_is = h.first_is;
      last_is = h.last_is;
      number_is = ap (λ (m : ℕ). m + 1) h.number_is;
      times_are = h.times_are;
      account_is = h.account_is;
    } in
    let g = placed_stands b p f o (k + 1) t x counted_stands in
    record {
      first_is = g.first_is;
      last_is = g.last_is;
      number_is = g.number_is;
      times_are = ap (λ (u : Times). after u s n) g.times_are;
      account_is = λ i. account_by (g.account_is i) (g.first_is i) n (due_by (h.number_is i) (g.times_are i) s n place bytes);
    }

-- ---- what is settled

settled_stands : (a : Auditing) (y : Option Account) (f o : Option Sequence) (k : ℕ) (t : Times) (x : Option Account) → a.account ≡ y → Stands a f o k t x → Stands (cleared (settled_by a y)) f o k t (option_map after_settled y)
settled_stands a None f o k t x e h = record { first_is = h.first_is; last_is = h.last_is; number_is = h.number_is; times_are = h.times_are; account_is = e }
settled_stands a (Some z) f o k t x e h = record { first_is = h.first_is; last_is = h.last_is; number_is = h.number_is; times_are = h.times_are; account_is = refl }

ending_stands : (place : ℕ) (piece : List ℕ) (a : Auditing) (f o : Option Sequence) (k : ℕ) (t : Times) (x : Option Account)
    → Stands a f o k t x → Stands (with_ending place piece a) f o k t x
ending_stands place piece a f o k t x h =
    record { first_is = h.first_is; last_is = h.last_is; number_is = h.number_is; times_are = h.times_are; account_is = h.account_is }

-- ---- a piece

-- what a piece tells of removals, and what stands behind it, where the account came to this
pub record Moves (a : Auditing) (place : ℕ) (piece : List ℕ) (notes : PieceNotes) (first last : Option Sequence) (number : ℕ) (times : Times) (account : Option Account) : Type 0 where
  pub told : piece_removals a place piece notes ≡ settled_in account
  pub behind : Stands (cleared (after_piece a place piece notes)) first last number times (option_map after_settled account)

moved : (a : Auditing) (place : ℕ) (piece : List ℕ) (notes : PieceNotes) (f o : Option Sequence) (k : ℕ) (t : Times) (x : Option Account)
    → Stands (pictured (fronted (longer (length piece) a) place piece notes) place (length piece) (zeros_last piece) notes.picture) f o k t x → Moves a place piece notes f o k t x
unfolding after_piece
moved a place piece notes f o k t x h =
    let c = fronted (longer (length piece) a) place piece notes in
    let d = pictured c place (length piece) (zeros_last piece) notes.picture in
    let e = with_others c.pictures (others_of place piece) d in
    let g : Stands e f o k t x = record { first_is = h.first_is; last_is = h.last_is; number_is = h.number_is; times_are = h.times_are; account_is = h.account_is } in
    record {
      told = ap settled_in h.account_is;
      behind =
          subst (λ (y : Option Account). Stands (cleared (with_settled (with_ending place piece e))) f o k t (option_map after_settled y)) h.account_is
          (settled_stands (with_ending place piece e) d.account f o k t x refl (ending_stands place piece e f o k t x g));
    }

-- the picture that is noted of a piece is the first one that it tells
pub noted_picture : (place : ℕ) (piece : List ℕ) (es : Events) → (notes_of place piece es).picture ≡ first_note (8 * place + code_bits piece) (pictures_in es)
unfolding notes_of
noted_picture place piece es = refl

-- the headers of a piece leave in force the last sequence header that it tells
pub fronted_stands : (a : Auditing) (place : ℕ) (piece : List ℕ) (es : Events) (f o : Option Sequence) (k : ℕ) (t : Times) (x : Option Account) → Fronts (front_of place piece) es → Stands (begun_at a place piece es) f o k t x
    → Stands (fronted (longer (length piece) a) place piece (notes_of place piece es)) f (last_in o es) k t x
fronted_stands a place piece es f o k t x fronts h =
    let b = begun_at a place piece es in
    let ss = (notes_of place piece es).sequences in
    let hs = front_of place piece in
    let g = untouched_stands b (with_headers b ss 0 hs) f o k t x (all_headers b ss 0 hs) h in
    record {
      first_is = g.first_is;
      last_is = last_sequence b place piece es fronts ∙ ap (λ (s : Option Sequence). last_in s es) h.last_is;
      number_is = g.number_is;
      times_are = g.times_are;
      account_is = g.account_is;
    }

-- a piece without a picture: the last picture has more bits
pub more_moves : (a : Auditing) (place : ℕ) (piece : List ℕ) (es : Events) (f o : Option Sequence) (k : ℕ) (t : Times) (x : Option Account) → Fronts (front_of place piece) es → Stands (begun_at a place piece es) f o k t x → pictures_in es ≡ []
    → Moves a place piece (notes_of place piece es) f (last_in o es) k t (option_map (λ (y : Account). with_more y (bits_of_piece piece)) x)
more_moves a place piece es f o k t x fronts h none =
    let notes = notes_of place piece es in
    let c = fronted (longer (length piece) a) place piece notes in
    let g = fronted_stands a place piece es f o k t x fronts h in
    let picture : notes.picture ≡ None = noted_picture place piece es ∙ ap (first_note (8 * place + code_bits piece)) none in
    let is : pictured c place (length piece) (zeros_last piece) notes.picture ≡ with_note c c.sequence None place (length piece) (zeros_last piece) =
    ap (λ (n : Option PictureNote). with_note c c.sequence n place (length piece) (zeros_last piece)) picture in
    moved a place piece notes f (last_in o es) k t (option_map (λ (y : Account). with_more y (bits_of_piece piece)) x)
    (subst (λ (d : Auditing). Stands d f (last_in o es) k t (option_map (λ (y : Account). with_more y (bits_of_piece piece)) x)) (sym is)
    (record { first_is = g.first_is; last_is = g.last_is; number_is = g.number_is; times_are = g.times_are; account_is = ap (option_map (λ (y : Account). with_more y (bits_of_piece piece))) g.account_is }))

-- a piece with a picture: the account goes on with it, or begins
pub picture_moves : (a : Auditing) (place : ℕ) (piece : List ℕ) (es : Events) (m : Numbered) (f o : Option Sequence) (k : ℕ) (t : Times) (x : Option Account) → Fronts (front_of place piece) es → Stands (begun_at a place piece es) f o k t x
    → pictures_in es ≡ m.picture ∷ [] → last_in o es ≡ Some m.sequence → m.number ≡ k → let n : PictureNote = note_of (8 * place + code_bits piece) m.picture in
    Moves a place piece (notes_of place piece es) f (last_in o es) (k + 1) (after t m.sequence n) (account_by x f n (due_at t place (bits_of_piece piece) piece m))
picture_moves a place piece es m f o k t x fronts h one headed number =
    let notes = notes_of place piece es in
    let c = fronted (longer (length piece) a) place piece notes in
    let s = m.sequence in
    let n : PictureNote = note_of (8 * place + code_bits piece) m.picture in
    let g = fronted_stands a place piece es f o k t x fronts h in
    let picture : notes.picture ≡ Some n = noted_picture place piece es ∙ ap (first_note (8 * place + code_bits piece)) one in
    let is : pictured c place (length piece) (zeros_last piece) notes.picture ≡ with_coded c (coded c s n) place (length piece) (zeros_last piece) =
    ap (λ (n : Option PictureNote). with_note c c.sequence n place (length piece) (zeros_last piece)) picture
    ∙ ap (λ (z : Option Sequence). with_note c z (Some n) place (length piece) (zeros_last piece)) (g.last_is ∙ headed) in
    let code : n.code_end - 8 * place ≡ code_bits piece = omega arith in
    let due : due_by k t s n place (length piece) ≡ due_at t place (bits_of_piece piece) piece m =
    λ i. record { number = sym number i; bit = n.code_end - 32; bits = bits_of_piece piece; code_bits = code i; units = time_of t s n; delay = n.info.vbv_delay } in
    moved a place piece notes f (last_in o es) (k + 1) (after t s n) (account_by x f n (due_at t place (bits_of_piece piece) piece m))
    (subst (λ (d : Auditing). Stands d f (last_in o es) (k + 1) (after t s n) (account_by x f n (due_at t place (bits_of_piece piece) piece m))) (sym is)
    (subst (λ (d : Due). Stands (with_coded c (coded c s n) place (length piece) (zeros_last piece)) f (last_in o es) (k + 1) (after t s n) (account_by x f n d)) due
    (coded_stands c s n place (length piece) (zeros_last piece) f (last_in o es) k t x g)))
