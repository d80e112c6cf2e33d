-- A picture as it is sent: what is held when it is due, its zero bytes, its delay and its parts.
use Rattle.std.proofs.Common.{◌≡◌, ℕ, zero, suc, ◌+◌, ◌-◌, ◌*◌, ◌/◌, ◌%◌, ◌^◌, ◌<◌, ◌≤◌, Bool, cond, List, [], ◌++◌, length, replicate, refl, sym, ap, subst, ◌∙◌, arith, append_assoc}
use Rattle.std.specs.Prelude.{nat_eq, ◌&&◌, slice_index}
use Rattle.std.proofs.lemmas.Bool.{cond_both}
use Rattle.std.proofs.lemmas.List.{append-nil}
use Rattle.std.proofs.lemmas.List.Concat.{length-flat_map}
use Rattle.m2v_bits.specs.Bits.{packed, IsEdge}
use Rattle.m2v_bits.proofs.Units.{edge-append, packed-append}
use Rattle.m2v_set.specs.declared.settings.Settings.{Settings}
use Rattle.m2v_set.specs.Numbers.{buffer_bits, least_of}
use Rattle.m2v_set.proofs.Facts.{bounds}
use Rattle.m2v_vbv.specs.Account.{State, stuffing_of, arriving}
use Rattle.m2v_rate.specs.Plans.{Entries, account_at}
use Rattle.m2v_rate.proofs.Places.{arriving_is, gone_whole}
use Rattle.m2v_rate.proofs.Lows.{buffer_at, held_least, held_most, size_whole}
use Rattle.m2v_slice.specs.Slices.{CodedSlice}
use Rattle.m2v_slice.specs.Headers.{header_units, bits_to_code}
use Rattle.m2v_slice.specs.Books.{Book, rows, job_at, picture_at, size_of, ledger_with}
use Rattle.m2v_slice.specs.Conditions.{IsBook}
use Rattle.m2v_slice.proofs.Groups.{passes_of}
use Rattle.m2v_slice.proofs.Ledgers.{whole_ledger_is, whole_settings, whole_kinds, whole_sizes, size_at}
use Rattle.m2v_law_shown.specs.m2v_enc_stream.Streams.{zeros_of, delay_at, picture_text, pictures_text, zeros_sum}
use Rattle.m2v_encode.specs.Groups.{all_coded, whole_ledger, slices_text, IsPlace}
use Rattle.m2v_encode.proofs.Pieces.{size_small}
use Rattle.m2v_law_shown.proofs.m2v_enc_stream.Pictures.{picture_length, pictures_more, zeros_whole}
use Rattle.m2v_encode.proofs.PictureTexts.{header_whole, slices_edge, slices_all, picture_bytes}

-- ---- the ledger

pub known_at : (b : Book) (l : Entries) (p : ℕ) → p ≤ length b.pictures → l ≡ whole_ledger b → p ≤ length l.sizes
known_at b l p le is = omega (arith, le, whole_sizes b, ap (λ (x : Entries). length x.sizes) is)

-- ---- what is held

pub record IsDue (b : Book) (a : State) (size : ℕ) : Type 0 where
  pub whole : 1800 * size ≤ a.held
  pub taken : a.held ≤ 1800 * a.start.buffer_bits
  pub least : 489600 ≤ a.held
  pub most : a.held ≤ 1800 * buffer_bits b.settings

least_held : (s : Settings) (held : ℕ) → 1800 * least_of s ≤ held → 489600 ≤ held
unfolding least_of
least_held s held le = omega (arith, le)

pub due_at : (b : Book) → IsBook b → (l : Entries) (p : ℕ) (a : State) (size : ℕ) → p < length b.pictures → l ≡ whole_ledger b
    → a ≡ account_at l p → size ≡ size_of b (all_coded b) p → IsDue b a size
due_at b h l p a size lt is at same =
    let w = whole_ledger b in
    let st = (whole_ledger_is b h).steady in
    let kinds : p ≤ length w.kinds = omega (arith, lt, whole_kinds b h) in
    let known : p < length w.sizes = omega (arith, lt, whole_sizes b) in
    let buffer : buffer_bits w.settings ≡ buffer_bits b.settings = ap buffer_bits (whole_settings b h) in
    let here : IsDue b (account_at w p) (size_of b (all_coded b) p) = record {
      whole = omega (arith, size_whole w p st known, size_at b p lt);
      taken = omega (arith, held_most w p st.begun kinds, buffer_at w p st.begun);
      least = least_held w.settings (account_at w p).held (held_least w p st.begun kinds);
      most = omega (arith, held_most w p st.begun kinds, buffer);
    } in
    subst (λ (x : State). IsDue b x size) (sym (at ∙ ap (λ (x : Entries). account_at x p) is))
    (subst (IsDue b (account_at w p)) (sym same) here)

-- ---- zero bytes

-- the zero bits as they are computed
pub zeros_at : (b : Book) → IsBook b → (l : Entries) (ends : Bool) (p : ℕ) (a : State) (size : ℕ) → p < length b.pictures → l ≡ whole_ledger b
    → a ≡ account_at l p → size ≡ size_of b (all_coded b) p
    → cond (ends && nat_eq (p + 1) (length b.pictures)) 0 (stuffing_of a size (slice_index b.ledger.intervals p)) ≡ zeros_of l ends p
unfolding ledger_with
zeros_at b h l ends p a size lt is at same =
    let w = whole_ledger b in
    let u = slice_index b.ledger.intervals p in
    ap (λ (n : ℕ). cond (ends && nat_eq (p + 1) n) 0 (stuffing_of a size u)) (sym (whole_kinds b h))
    ∙ ap (λ (x : State). cond (ends && nat_eq (p + 1) (length w.kinds)) 0 (stuffing_of x size u)) (at ∙ ap (λ (x : Entries). account_at x p) is)
    ∙ ap (λ (n : ℕ). cond (ends && nat_eq (p + 1) (length w.kinds)) 0 (stuffing_of (account_at w p) n u)) (same ∙ sym (size_at b p lt))
    ∙ ap (λ (x : Entries). zeros_of x ends p) (sym is)

sizes_small : (b : Book) → IsBook b → 1800 * buffer_bits b.settings ≤ 1800 * 9781248
sizes_small b h = let buffer = (bounds b.settings (passes_of b h)).size.buffer in omega (arith, buffer)

-- a picture with its zero bytes is smaller than the buffer
pub sent_small : (b : Book) → IsBook b → (ends : Bool) (p : ℕ) → p < length b.pictures → size_of b (all_coded b) p + zeros_of (whole_ledger b) ends p ≤ 2 ^ 24
sent_small b h ends p lt =
    let w = whole_ledger b in
    let st = (whole_ledger_is b h).steady in
    let known : p < length w.sizes = omega (arith, lt, whole_sizes b) in
    let kinds : p ≤ length w.kinds = omega (arith, lt, whole_kinds b h) in
    let gone = gone_whole w p st known in
    let held = held_most w p st.begun kinds in
    let buffer : buffer_bits w.settings ≡ buffer_bits b.settings = ap buffer_bits (whole_settings b h) in
    let small = sizes_small b h in
    let size = size_at b p lt in
    cond_both (ends && nat_eq (p + 1) (length w.kinds)) _ _ (λ (n : ℕ). size_of b (all_coded b) p + n ≤ 2 ^ 24)
    (λ e. omega (arith, size_small b h p lt))
    (λ e. omega (arith, gone, held, buffer, small, size))

-- ---- sizes

pub size_bytes : (b : Book) → IsBook b → (p : ℕ) → p < length b.pictures → size_of b (all_coded b) p % 8 ≡ 0
size_bytes b h p lt =
    let xs = (picture_at (all_coded b) p).slices in
    let sum = length-flat_map (λ (x : CodedSlice). x.text) xs in
    omega (arith, sum, ap length (slices_all b p lt), slices_edge b p (rows b) lt (omega arith), header_whole (job_at b p))

pub sent_bytes : (b : Book) → IsBook b → (l : Entries) (ends : Bool) (p size zeros : ℕ) → p < length b.pictures → size ≡ size_of b (all_coded b) p → zeros ≡ zeros_of l ends p
    → (8 * ((size + zeros) / 8) ≡ size_of b (all_coded b) p + zeros_of l ends p) × (8 * (zeros / 8) ≡ zeros_of l ends p)
sent_bytes b h l ends p size zeros lt same is =
    let one = size_bytes b h p lt in
    let two = zeros_whole l ends p in
    (omega (arith, one, two, same, is), omega (arith, two, is))

-- ---- parts

delay_is : (b : Book) → IsBook b → (l : Entries) (p at : ℕ) (a : State) → l ≡ whole_ledger b → a ≡ account_at l p
    → IsPlace b.settings (account_at l p) at → 272 ≤ at + bits_to_code (job_at b p)
    → (a.held - 1800 * bits_to_code (job_at b p)) / (8 * b.settings.bits) ≡ delay_at l (job_at b p) p at
delay_is b h l p at a is same place le =
    let code = bits_to_code (job_at b p) in
    ap (λ (x : State). (x.held - 1800 * code) / (8 * b.settings.bits)) same
    ∙ ap (λ (n : ℕ). n / (8 * b.settings.bits)) (sym (arriving_is b.settings (account_at l p) at code place le))
    ∙ ap (λ (s : Settings). arriving (account_at l p) (at + code) / (8 * s.bits)) (sym (ap (λ (x : Entries). x.settings) is ∙ whole_settings b h))

-- the parts of a picture's bytes, as they are put
pub parts_of : (b : Book) → IsBook b → (l : Entries) (ends : Bool) (p at : ℕ) (a : State) (size zeros : ℕ) → p < length b.pictures → l ≡ whole_ledger b
    → a ≡ account_at l p → size ≡ size_of b (all_coded b) p → IsPlace b.settings (account_at l p) at → 272 ≤ at + bits_to_code (job_at b p)
    → zeros ≡ cond (ends && nat_eq (p + 1) (length b.pictures)) 0 (stuffing_of a size (slice_index b.ledger.intervals p)) → zeros % 8 ≡ 0
    → packed (picture_text b (all_coded b) l ends at p)
    ≡ packed (header_units b.settings (job_at b p) ((a.held - 1800 * bits_to_code (job_at b p)) / (8 * b.settings.bits)))
    ++ (packed (slices_text b p (rows b)) ++ replicate (zeros / 8) 0)
parts_of b h l ends p at a size zeros lt is same known place le none whole =
    picture_bytes b h l ends at p _ zeros lt (delay_is b h l p at a is same place le) (none ∙ zeros_at b h l ends p a size lt is same known) whole

pub parts_split : (all xs ys zs : List ℕ) → all ≡ xs ++ (ys ++ zs) → all ≡ (xs ++ ys) ++ (zs ++ [])
parts_split all xs ys zs is = is ∙ sym (append_assoc xs ys zs) ∙ ap (λ (t : List ℕ). (xs ++ ys) ++ t) (sym (append-nil zs))

-- ---- pictures one behind another

pub zeros_more : (l : Entries) (ends : Bool) (n : ℕ) → zeros_sum l ends (n + 1) ≡ zeros_sum l ends n + zeros_of l ends n
unfolding zeros_sum
zeros_more l ends n = ap (zeros_sum l ends) (let e : n + 1 ≡ suc n = omega arith in e)

picture_edge : (b : Book) → IsBook b → (l : Entries) (ends : Bool) (at p : ℕ) → p < length b.pictures → IsEdge (picture_text b (all_coded b) l ends at p)
picture_edge b h l ends at p lt = omega (arith, picture_length b h l ends at p lt, size_bytes b h p lt, zeros_whole l ends p)

pub pictures_edge : (b : Book) → IsBook b → (l : Entries) (ends : Bool) (at n : ℕ) → n ≤ length b.pictures → IsEdge (pictures_text b (all_coded b) l ends at n)
unfolding pictures_text
pictures_edge b h l ends at zero le = refl
pictures_edge b h l ends at (suc n) le =
    let t = pictures_text b (all_coded b) l ends at n in
    edge-append t (picture_text b (all_coded b) l ends (at + length t) n) (pictures_edge b h l ends at n (omega (arith, le))) (picture_edge b h l ends (at + length t) n (omega (arith, le)))

-- one picture more, which begins where those before it end
pub bytes_more : (b : Book) → IsBook b → (l : Entries) (ends : Bool) (at n here : ℕ) → n < length b.pictures
    → here ≡ at + length (pictures_text b (all_coded b) l ends at n)
    → packed (pictures_text b (all_coded b) l ends at (n + 1))
    ≡ packed (pictures_text b (all_coded b) l ends at n) ++ packed (picture_text b (all_coded b) l ends here n)
bytes_more b h l ends at n here lt is =
    let t = pictures_text b (all_coded b) l ends at n in
    ap packed (pictures_more b l ends at n)
    ∙ packed-append t (picture_text b (all_coded b) l ends (at + length t) n) (pictures_edge b h l ends at n (omega (arith, lt)))
    ∙ ap (λ (m : ℕ). packed t ++ packed (picture_text b (all_coded b) l ends m n)) (sym is)

pub pictures_split : (b : Book) → IsBook b → (l : Entries) (ends : Bool) (at n k here : ℕ) → n + 1 + k ≡ length b.pictures
    → here ≡ at + length (pictures_text b (all_coded b) l ends at n)
    → (rest : List ℕ) × (packed (pictures_text b (all_coded b) l ends at (length b.pictures))
    ≡ packed (pictures_text b (all_coded b) l ends at n) ++ (packed (picture_text b (all_coded b) l ends here n) ++ rest))
pictures_split b h l ends at n zero here is place =
    let e : length b.pictures ≡ n + 1 = omega (arith, is) in (
      [],
      ap (λ (m : ℕ). packed (pictures_text b (all_coded b) l ends at m)) e ∙ bytes_more b h l ends at n here (omega (arith, is)) place
          ∙ ap (λ (xs : List ℕ). packed (pictures_text b (all_coded b) l ends at n) ++ xs) (sym (append-nil (packed (picture_text b (all_coded b) l ends here n)))),
    )
pictures_split b h l ends at n (suc k) here is place =
    let there = at + length (pictures_text b (all_coded b) l ends at (n + 1)) in
    let next = pictures_split b h l ends at (n + 1) k there (omega (arith, is)) refl in
    let front = packed (pictures_text b (all_coded b) l ends at n) in
    let one = packed (picture_text b (all_coded b) l ends here n) in
    let two = packed (picture_text b (all_coded b) l ends there (n + 1)) in (
      two ++ next.0,
      next.1 ∙ ap (λ (xs : List ℕ). xs ++ (two ++ next.0)) (bytes_more b h l ends at n here (omega (arith, is)) place) ∙ append_assoc front one (two ++ next.0),
    )
