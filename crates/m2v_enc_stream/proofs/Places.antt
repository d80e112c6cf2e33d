-- Where the pictures of a group stand in the stream, and that their delays fit their 16 bits.
use Rattle.std.proofs.Common.{◌≡◌, ℕ, zero, suc, ◌+◌, ◌*◌, ◌/◌, ◌<◌, ◌≤◌, ◌⊎◌, inl, inr, Bool, false, length, refl, sym, ap, subst, arith}
use Rattle.std.proofs.Math.Nat.{div-le_of_le-mul}
use Rattle.m2v_set.specs.declared.settings.Settings.{Settings}
use Rattle.m2v_set.specs.Numbers.{buffer_bits}
use Rattle.m2v_set.proofs.Facts.{bounds}
use Rattle.m2v_vbv.specs.Account.{arriving}
use Rattle.m2v_rate.specs.Plans.{account_at}
use Rattle.m2v_rate.specs.Places.{IsPlace}
use Rattle.m2v_rate.proofs.Places.{arriving_is}
use Rattle.m2v_rate.proofs.Lows.{held_most}
use Rattle.m2v_slice.specs.Headers.{bits_to_code}
use Rattle.m2v_slice.specs.Books.{Book, job_at, size_of, all_coded, whole_ledger}
use Rattle.m2v_slice.specs.Conditions.{IsBook}
use Rattle.m2v_slice.proofs.Groups.{passes_of}
use Rattle.m2v_slice.proofs.Ledgers.{whole_ledger_is, whole_settings, whole_kinds}
use Rattle.m2v_enc_stream.specs.Streams.{zeros_of, delay_at, pictures_text}
use Rattle.m2v_enc_stream.proofs.Pictures.{length_more, place_more, begun_at, begun_on}

-- ---- the pictures of a group

-- where the first pictures of a group, which begins at a bit of the stream, end
abbrev pub place_at : Book → Bool → ℕ → ℕ → ℕ
place_at b ends at p = at + length (pictures_text b (all_coded b) (whole_ledger b) ends at p)

text_none : (b : Book) (ends : Bool) (at : ℕ) → place_at b ends at 0 ≡ at
unfolding pictures_text
text_none b ends at = let e : at + 0 ≡ at = omega arith in e

-- a picture stands behind the first start code but for the first one
record IsPlaced (b : Book) (ends : Bool) (at p : ℕ) : Type 0 where
  place : IsPlace b.settings (account_at (whole_ledger b) p) (place_at b ends at p)
  late : 0 < p → 272 ≤ place_at b ends at p

placed : (b : Book) → IsBook b → (ends : Bool) (at p : ℕ) → (p < length b.pictures) ⊎ ((p ≤ length b.pictures) × (ends ≡ false))
    → IsPlace b.settings (account_at (whole_ledger b) 0) at → IsPlaced b ends at p
placed b h ends at zero may first = record {
  place = subst (IsPlace b.settings (account_at (whole_ledger b) 0)) (sym (text_none b ends at)) first;
  late = λ some. absurd (omega (arith, some));
}
placed b h ends at (suc p) may first =
    let w = whole_ledger b in
    let lt : p < length b.pictures = below may in
    let rec = placed b h ends at p (inl lt) first in
    let next : p + 1 ≡ suc p = omega arith in
    let e : place_at b ends at (p + 1) ≡ place_at b ends at p + (size_of b (all_coded b) p + zeros_of w ends p) = omega (arith, length_more b h w ends at p lt) in
    subst (IsPlaced b ends at) next
    (record {
      place = place_more b h w ends p (place_at b ends at p) (place_at b ends at (p + 1)) lt refl (goes may) rec.place e;
      late = λ some. begun_on b h p (zeros_of w ends p) (place_at b ends at p) (place_at b ends at (p + 1)) e rec.late;
    })
  where
    below : (suc p < length b.pictures) ⊎ ((suc p ≤ length b.pictures) × (ends ≡ false)) → p < length b.pictures
    below (inl x) = omega (arith, x)
    below (inr x) = omega (arith, x.0)

    goes : (suc p < length b.pictures) ⊎ ((suc p ≤ length b.pictures) × (ends ≡ false)) → (p + 1 < length b.pictures) ⊎ (ends ≡ false)
    goes (inl x) = inl (omega (arith, x))
    goes (inr x) = inr x.1

-- where the next group begins
pub place_behind : (b : Book) → IsBook b → (at : ℕ) → IsPlace b.settings (account_at (whole_ledger b) 0) at
    → IsPlace b.settings (account_at (whole_ledger b) (length b.pictures)) (place_at b false at (length b.pictures))
place_behind b h at first = (placed b h false at (length b.pictures) (inr (omega arith, refl)) first).place

-- the delay is that in which what is held arrives, which is at most the buffer
small_at : (b : Book) → IsBook b → (p at : ℕ) → p < length b.pictures → IsPlace b.settings (account_at (whole_ledger b) p) at → (0 < p → 272 ≤ at)
    → delay_at (whole_ledger b) (job_at b p) p at ≤ 65534
small_at b h p at lt place later =
    let s = b.settings in
    let w = whole_ledger b in
    let code = bits_to_code (job_at b p) in
    let st = (whole_ledger_is b h).steady in
    let is = arriving_is s (account_at w p) at code place (begun_at b h p at later) in
    let most = held_most w p st.begun (omega (arith, lt, whole_kinds b h)) in
    let buffer : buffer_bits w.settings ≡ buffer_bits s = ap buffer_bits (whole_settings b h) in
    let fills = (bounds s (passes_of b h)).time.fills in
    let few : arriving (account_at w p) (at + code) ≤ 8 * s.bits * 65534 = omega (arith, is, most, buffer, fills) in
    let rate : delay_at w (job_at b p) p at ≡ arriving (account_at w p) (at + code) / (8 * s.bits) = ap (λ (x : Settings). arriving (account_at w p) (at + code) / (8 * x.bits)) (whole_settings b h) in
    let low = div-le_of_le-mul (8 * s.bits) few in
    omega (arith, rate, low)

-- the delays of a group that begins at its place fit, and aren't all set
pub delay_small : (b : Book) → IsBook b → (ends : Bool) (at p : ℕ) → p < length b.pictures → IsPlace b.settings (account_at (whole_ledger b) 0) at
    → delay_at (whole_ledger b) (job_at b p) p (place_at b ends at p) ≤ 65534
delay_small b h ends at p lt first =
    let x = placed b h ends at p (inl lt) first in
    small_at b h p (place_at b ends at p) lt x.place x.late
