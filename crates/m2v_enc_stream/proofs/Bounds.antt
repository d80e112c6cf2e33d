-- Each delay has its 16 bits, and the first one is the one that is set.
use Rattle.std.proofs.Common.{◌≡◌, ℕ, ◌+◌, ◌*◌, ◌/◌, ◌<◌, ◌≤◌, Bool, List, [], length, refl, ap, ◌∙◌, arith}
use Rattle.std.proofs.Math.Nat.{mul-div_cancel_left}
use Rattle.m2v_plane.specs.Samples.{Samples}
use Rattle.m2v_set.specs.declared.settings.Settings.{Settings}
use Rattle.m2v_set.specs.Numbers.{delay_of}
use Rattle.m2v_set.specs.Rules.{Passes}
use Rattle.m2v_set.proofs.Facts.{bounds}
use Rattle.m2v_vbv.specs.Annex.{Removal, removed}
use Rattle.m2v_vbv.specs.Account.{arriving, account_of}
use Rattle.m2v_order.specs.Groups.{Group}
use Rattle.m2v_rate.specs.Plans.{start_of}
use Rattle.m2v_rate.specs.Safety.{sent}
use Rattle.m2v_slice.specs.Headers.{bits_to_code}
use Rattle.m2v_slice.specs.Books.{job_at}
use Rattle.m2v_enc_stream.specs.Streams.{book_of, delay_at}
use Rattle.m2v_enc_stream.specs.Removals.{ledger_of, groups_seen, begun_by, begins_at, removed_before}
use Rattle.m2v_slice.proofs.Firsts.{first_code}
use Rattle.m2v_enc_stream.proofs.Places as places
use Rattle.m2v_enc_stream.proofs.Delays.{IsPlaced, delay_exact}

pub delay_small : (s : Settings) (earlier : List (Group Samples)) (g : Group Samples) (ends : Bool) (p : ℕ) → p < length g.pictures → IsPlaced s earlier g
    → (let b = book_of s (begun_by s earlier) g in delay_at (ledger_of b) (job_at b p) p (begins_at s earlier g ends p) ≤ 65534)
delay_small s earlier g ends p lt h =
    let x = begun_by s earlier in
    places.delay_small (book_of s x g) h.here.book ends (length x.text) p lt h.here.place

-- ---- the first delay

none_before : (s : Settings) (g : Group Samples) → removed_before s [] g 0 ≡ []
unfolding groups_seen sent
none_before s g = refl

first_arriving : (s : Settings) (code : ℕ) → code ≡ 272 → arriving (account_of (start_of s) []) (removed [] + code) ≡ 8 * s.bits * delay_of s
unfolding account_of
first_arriving s code is = rw is (omega arith)

pub delay_first : (s : Settings) (g : Group Samples) (ends : Bool) → Passes s → IsPlaced s [] g
    → (let b = book_of s (begun_by s []) g in delay_at (ledger_of b) (job_at b 0) 0 (begins_at s [] g ends 0) ≡ delay_of s)
delay_first s g ends passes h =
    let b = book_of s (begun_by s []) g in
    let code = bits_to_code (job_at b 0) in
    let some = (bounds s passes).size.bit in
    delay_exact s [] g ends 0 passes (omega (arith, h.here.book.group.picture)) h
    ∙ ap (λ (rs : List Removal). arriving (account_of (start_of s) rs) (removed rs + code) / (8 * s.bits)) (none_before s g)
    ∙ ap (λ (n : ℕ). n / (8 * s.bits)) (first_arriving s code (first_code b h.here.book).0)
    ∙ mul-div_cancel_left (delay_of s) (omega (arith, some))
