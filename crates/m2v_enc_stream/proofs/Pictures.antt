-- The pictures of a group one behind another: how long they are, and where each of them stands in the stream.
use Rattle.std.proofs.Common.{◌≡◌, ℕ, zero, suc, ◌+◌, ◌%◌, ◌<◌, ◌≤◌, ◌⊎◌, inl, inr, Bool, false, cond, ◌++◌, length, replicate, get_or, refl, sym, ap, subst, arith}
use Rattle.std.specs.Prelude.{nat_eq, ◌&&◌}
use Rattle.std.specs.List.{flat_map}
use Rattle.std.proofs.lemmas.Bool.{cases_Bool, cond-false, cond_both, and_parts, eqb-true}
use Rattle.std.proofs.lemmas.List.{length-append, length-replicate}
use Rattle.std.proofs.lemmas.List.Concat.{length-flat_map}
use Rattle.m2v_vbv.specs.Account.{State, stuffing_of}
use Rattle.m2v_rate.specs.Plans.{Entries, account_at}
use Rattle.m2v_rate.specs.Places.{IsPlace}
use Rattle.m2v_rate.proofs.Places.{next_place}
use Rattle.m2v_slice.specs.Slices.{CodedSlice}
use Rattle.m2v_slice.specs.Headers.{header_units, bits_to_code}
use Rattle.m2v_slice.specs.Books.{Book, job_at, picture_at, size_of, all_coded, whole_ledger}
use Rattle.m2v_slice.specs.Conditions.{IsBook}
use Rattle.m2v_slice.proofs.TextLengths.{header_length}
use Rattle.m2v_slice.proofs.Slices.{is_job}
use Rattle.m2v_slice.proofs.Ledgers.{whole_ledger_is, whole_kinds, whole_sizes, size_at}
use Rattle.m2v_slice.proofs.Firsts.{first_code}
use Rattle.m2v_enc_stream.specs.Streams.{zeros_of, delay_at, picture_text, pictures_text}

-- ---- lengths

pub picture_length : (b : Book) → IsBook b → (l : Entries) (ends : Bool) (at p : ℕ) → p < length b.pictures
    → length (picture_text b (all_coded b) l ends at p) ≡ size_of b (all_coded b) p + zeros_of l ends p
unfolding picture_text
picture_length b h l ends at p lt =
    let head = header_units b.settings (job_at b p) (delay_at l (job_at b p) p at) in
    let slices = flat_map (λ (x : CodedSlice). x.text) (picture_at (all_coded b) p).slices in
    let tail = replicate (zeros_of l ends p) false in
    omega (
      arith,
      length-append head (slices ++ tail),
      length-append slices tail,
      length-replicate (zeros_of l ends p) false,
      length-flat_map (λ (x : CodedSlice). x.text) (picture_at (all_coded b) p).slices,
      header_length b.settings (job_at b p) (delay_at l (job_at b p) p at) (is_job b h p lt),
    )

pub pictures_more : (b : Book) (l : Entries) (ends : Bool) (at n : ℕ)
    → pictures_text b (all_coded b) l ends at (n + 1)
    ≡ pictures_text b (all_coded b) l ends at n ++ picture_text b (all_coded b) l ends (at + length (pictures_text b (all_coded b) l ends at n)) n
unfolding pictures_text
pictures_more b l ends at n = ap (pictures_text b (all_coded b) l ends at) (let e : n + 1 ≡ suc n = omega arith in e)

-- how long they are with one more
pub length_more : (b : Book) → IsBook b → (l : Entries) (ends : Bool) (at n : ℕ) → n < length b.pictures
    → length (pictures_text b (all_coded b) l ends at (n + 1)) ≡ length (pictures_text b (all_coded b) l ends at n) + (size_of b (all_coded b) n + zeros_of l ends n)
length_more b h l ends at n lt =
    let t = pictures_text b (all_coded b) l ends at n in
    omega (arith, ap length (pictures_more b l ends at n), length-append t (picture_text b (all_coded b) l ends (at + length t) n), picture_length b h l ends (at + length t) n lt)

-- ---- zero bits

-- behind a picture that isn't the last of all stand all its zero bits
zeros_full : (l : Entries) (ends : Bool) (p : ℕ) → (p + 1 < length l.kinds) ⊎ (ends ≡ false)
    → zeros_of l ends p ≡ stuffing_of (account_at l p) (get_or l.sizes p 0) (get_or l.intervals p 0)
zeros_full l ends p (inl lt) = elim (cases_Bool (ends && nat_eq (p + 1) (length l.kinds))) [
  | inl e ↦ absurd (let f = eqb-true (p + 1) (length l.kinds) (and_parts ends (nat_eq (p + 1) (length l.kinds)) e).1 in omega (arith, f, lt))
  | inr e ↦ cond-false (ends && nat_eq (p + 1) (length l.kinds)) _ _ e
]
zeros_full l ends p (inr e) = ap (λ (t : Bool). cond (t && nat_eq (p + 1) (length l.kinds)) 0 (stuffing_of (account_at l p) (get_or l.sizes p 0) (get_or l.intervals p 0))) e

-- in the ledger of a book
pub zeros_on : (b : Book) → IsBook b → (ends : Bool) (p : ℕ) → (p + 1 < length b.pictures) ⊎ (ends ≡ false)
    → (let w = whole_ledger b in zeros_of w ends p ≡ stuffing_of (account_at w p) (get_or w.sizes p 0) (get_or w.intervals p 0))
zeros_on b h ends p goes = zeros_full (whole_ledger b) ends p (more goes)
  where
    more : (p + 1 < length b.pictures) ⊎ (ends ≡ false) → (p + 1 < length (whole_ledger b).kinds) ⊎ (ends ≡ false)
    more (inl lt) = inl (omega (arith, lt, whole_kinds b h))
    more (inr e) = inr e

eights : (a : State) (bits units : ℕ) → stuffing_of a bits units % 8 ≡ 0
unfolding stuffing_of
eights a bits units = omega arith

pub zeros_whole : (l : Entries) (ends : Bool) (p : ℕ) → zeros_of l ends p % 8 ≡ 0
zeros_whole l ends p = cond_both (ends && nat_eq (p + 1) (length l.kinds)) _ _ (λ (n : ℕ). n % 8 ≡ 0) (λ e. refl)
    (λ e. eights (account_at l p) (get_or l.sizes p 0) (get_or l.intervals p 0))

-- ---- places

-- behind a picture that isn't the last of all
pub place_more : (b : Book) → IsBook b → (l : Entries) (ends : Bool) (p at next : ℕ) → p < length b.pictures → l ≡ whole_ledger b
    → (p + 1 < length b.pictures) ⊎ (ends ≡ false) → IsPlace b.settings (account_at l p) at
    → next ≡ at + (size_of b (all_coded b) p + zeros_of l ends p) → IsPlace b.settings (account_at l (p + 1)) next
place_more b h l ends p at next lt is goes place same =
    let w = whole_ledger b in
    let st = (whole_ledger_is b h).steady in
    let known : p < length w.sizes = omega (arith, lt, whole_sizes b) in
    let here : IsPlace b.settings (account_at w p) at = subst (λ (x : Entries). IsPlace b.settings (account_at x p) at) is place in
    let step = next_place b.settings w p at st known here in
    let z = stuffing_of (account_at w p) (get_or w.sizes p 0) (get_or w.intervals p 0) in
    let e : at + (get_or w.sizes p 0 + z) ≡ next = omega (arith, same, size_at b p lt, zeros_on b h ends p goes, ap (λ (x : Entries). zeros_of x ends p) is) in
    subst (λ (x : Entries). IsPlace b.settings (account_at x (p + 1)) next) (sym is)
    (subst (IsPlace b.settings (account_at w (p + 1))) e step)

-- the first picture start code ends behind 272 bits, and each later one does
pub begun_at : (b : Book) → IsBook b → (p at : ℕ) → (0 < p → 272 ≤ at) → 272 ≤ at + bits_to_code (job_at b p)
begun_at b h zero at later = omega (arith, (first_code b h).0)
begun_at b h (suc p) at later = let le = later (omega arith) in omega (arith, le)

pub begun_on : (b : Book) → IsBook b → (p tail at next : ℕ) → next ≡ at + (size_of b (all_coded b) p + tail) → (0 < p → 272 ≤ at) → 272 ≤ next
begun_on b h zero tail at next is later = omega (arith, is, (first_code b h).1)
begun_on b h (suc p) tail at next is later = let le = later (omega arith) in omega (arith, le, is)
