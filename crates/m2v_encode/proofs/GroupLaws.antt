-- A group that was coded, and where coding it stops.
use Rattle.std.proofs.Common.{◌≡◌, ℕ, ◌+◌, ◌*◌, inl, inr, Bool, true, List, length, Option, Result, Ok, Err, sym, ap, subst, ◌∙◌, arith}
use Rattle.std.specs.Prelude.{is_some, IfSome, OnOk}
use Rattle.m2v_bits.specs.Bits.{packed}
use Rattle.m2v_port.specs.Ends.{Change, change}
use Rattle.m2v_port.specs.Port.{Grows}
use Rattle.m2v_port.proofs.Runs.{grows_by_all, grows_by_none}
use Rattle.m2v_plane.specs.Raw.{raw}
use Rattle.m2v_plane.specs.Samples.{Samples}
use Rattle.m2v_set.specs.declared.settings.Settings.{Settings}
use Rattle.m2v_set.specs.Numbers.{dims_of}
use Rattle.m2v_order.specs.Groups.{Group}
use Rattle.m2v_rate.specs.Plans.{Entries, account_at}
use Rattle.m2v_rate.specs.Steady.{IsSteady}
use Rattle.m2v_rate.proofs.Lows.{removals_at}
use Rattle.m2v_slice.specs.Books.{Book, ledger_with}
use Rattle.m2v_slice.specs.Conditions.{IsBook}
use Rattle.m2v_encode.specs.declared.answer.EncodeError.{EncodeError}
use Rattle.m2v_encode.specs.declared.answer.EncodeError.TheVariants.{Read, Write, ShortFrame, NoFrames, TooManyFrames, Memory}
use Rattle.m2v_encode.specs.declared.group.Coder.{Coder}
use Rattle.m2v_encode.specs.Groups.{whole_ledger, group_text, group_shown, anchor_behind, IsPlace}
use Rattle.m2v_law_shown.specs.m2v_enc_stream.Streams.{zeros_sum}
use Rattle.m2v_encode.specs.declared.answer.Summary.{Summary}
use Rattle.m2v_encode.specs.Steps.{PutStops, GroupStops, GroupCoded, GoesOn, book_by}
use Rattle.m2v_slice.proofs.Ledgers.{whole_ledger_is, whole_settings, whole_kinds, whole_sizes, removals_kept}
use Rattle.m2v_law_shown.proofs.m2v_enc_stream.Anchors.{anchor_some, anchor_size}

-- ---- where it stops

module _ {K N : Type 0} (held : K → Option (List ℕ)) (output_faults : K → ℕ) (kept : N → Option (List ℕ)) (recon_faults : N → ℕ) where
  -- nothing was written
  pub group_none : (b : Book) (ends : Bool) (at : ℕ) (o : K) (r : N) → GroupStops b ends at (change held output_faults o o) (change kept recon_faults r r) Memory
  unfolding GroupStops
  group_none b ends at o r = (grows_by_none (packed (group_text b ends at)), grows_by_none (raw (group_shown b)))

  -- output stopped
  pub group_output : (e : EncodeError) (b : Book) (ends : Bool) (at : ℕ) (o0 o1 : K) (r : N) → PutStops (packed (group_text b ends at)) (change held output_faults o0 o1) e
      → GroupStops b ends at (change held output_faults o0 o1) (change kept recon_faults r r) e
  unfolding PutStops GroupStops
  group_output Read b ends at o0 o1 r h = absurd h
  group_output Write b ends at o0 o1 r h = (inl h.0, (h.1, grows_by_none (raw (group_shown b))))
  group_output (ShortFrame extra) b ends at o0 o1 r h = absurd h
  group_output NoFrames b ends at o0 o1 r h = absurd h
  group_output TooManyFrames b ends at o0 o1 r h = absurd h
  group_output Memory b ends at o0 o1 r h = (h, grows_by_none (raw (group_shown b)))

  -- recon stopped
  pub group_recon : (e : EncodeError) (b : Book) (ends : Bool) (at : ℕ) (o0 o1 : K) (r0 r1 : N) → Grows (held o0) (packed (group_text b ends at)) (held o1)
      → PutStops (raw (group_shown b)) (change kept recon_faults r0 r1) e → GroupStops b ends at (change held output_faults o0 o1) (change kept recon_faults r0 r1) e
  unfolding PutStops GroupStops
  group_recon Read b ends at o0 o1 r0 r1 grown h = absurd h
  group_recon Write b ends at o0 o1 r0 r1 grown h = (inr h.0, (grows_by_all grown, h.1))
  group_recon (ShortFrame extra) b ends at o0 o1 r0 r1 grown h = absurd h
  group_recon NoFrames b ends at o0 o1 r0 r1 grown h = absurd h
  group_recon TooManyFrames b ends at o0 o1 r0 r1 grown h = absurd h
  group_recon Memory b ends at o0 o1 r0 r1 grown h = (grows_by_all grown, h)

-- all of a group was written
pub coded_by : (c d : Coder) (b : Book) (ends : Bool) (t : Summary) (l : Entries) (held recon : Change) → t ≡ c.total → l ≡ whole_ledger b
    → Grows held.old (packed (group_text b ends (8 * t.bytes))) held.new → Grows recon.old (raw (group_shown b)) recon.new
    → d.settings ≡ c.settings → d.ledger ≡ l → d.before ≡ anchor_behind b → d.total.frames ≡ t.frames
    → d.total.pictures ≡ t.pictures + length b.pictures → 8 * d.total.bytes ≡ 8 * t.bytes + length (group_text b ends (8 * t.bytes))
    → 8 * d.total.stuffing ≡ 8 * t.stuffing + zeros_sum l ends (length b.pictures) → GroupCoded c d b ends held recon
coded_by c d b ends t l held recon is same grown shown settings ledger before frames pictures bytes stuffing = record {
  grown = subst (λ (x : Summary). Grows held.old (packed (group_text b ends (8 * x.bytes))) held.new) is grown;
  shown = shown;
  settings = settings;
  ledger = ledger ∙ same;
  before = before;
  frames = frames ∙ ap (λ (x : Summary). x.frames) is;
  pictures = pictures ∙ ap (λ (x : Summary). x.pictures + length b.pictures) is;
  bytes = bytes ∙ ap (λ (x : Summary). 8 * x.bytes + length (group_text b ends (8 * x.bytes))) is;
  stuffing = stuffing ∙ ap (λ (x : Summary). 8 * x.stuffing + zeros_sum l ends (length b.pictures)) is ∙ ap (λ (x : Entries). 8 * c.total.stuffing + zeros_sum x ends (length b.pictures)) same;
}

-- it was written by a coder that had the book made
pub coded_since : (c m d : Coder) (b x : Book) (ends : Bool) (held recon : Change) → m.settings ≡ c.settings → m.total ≡ c.total → x ≡ b
    → GroupCoded m d x ends held recon → GroupCoded c d b ends held recon
coded_since c m d b x ends held recon settings total is coded =
    subst (λ (y : Book). GroupCoded c d y ends held recon) is (record {
      grown = subst (λ (t : Summary). Grows held.old (packed (group_text x ends (8 * t.bytes))) held.new) total coded.grown;
      shown = coded.shown;
      settings = coded.settings ∙ settings;
      ledger = coded.ledger;
      before = coded.before;
      frames = coded.frames ∙ ap (λ (t : Summary). t.frames) total;
      pictures = coded.pictures ∙ ap (λ (t : Summary). t.pictures + length x.pictures) total;
      bytes = coded.bytes ∙ ap (λ (t : Summary). 8 * t.bytes + length (group_text x ends (8 * t.bytes))) total;
      stuffing = coded.stuffing ∙ ap (λ (t : Summary). 8 * t.stuffing + zeros_sum (whole_ledger x) ends (length x.pictures)) total;
    })

pub stops_since : (b x : Book) (ends : Bool) (at from : ℕ) (held recon : Change) (e : EncodeError) → x ≡ b → from ≡ at
    → GroupStops x ends from held recon e → GroupStops b ends at held recon e
stops_since b x ends at from held recon e is same h =
    subst (λ (y : Book). GroupStops y ends at held recon e) is (subst (λ (n : ℕ). GroupStops x ends n held recon e) same h)

-- ---- what stands

-- a fact that holds after success holds
pub on_ok : {T E P : Type 0} (result : Result T E) → P → OnOk result P
on_ok (Ok v) holds = holds
on_ok (Err e) holds = tt

first_here : (c : Coder) (g : Group Samples) → IsPlace c.settings (account_at c.ledger (length c.ledger.kinds)) (8 * c.total.bytes)
    → IsPlace (book_by c g).settings (account_at (whole_ledger (book_by c g)) 0) (8 * c.total.bytes)
unfolding account_at ledger_with
first_here c g place = place

-- where its first picture stands
pub first_place : (c : Coder) (g : Group Samples) (b : Book) (coded : Bool) → b ≡ book_by c g → GoesOn c coded → IsPlace b.settings (account_at (whole_ledger b) 0) (8 * c.total.bytes)
first_place c g b coded is goes =
    subst (λ (x : Book). IsPlace x.settings (account_at (whole_ledger x) 0) (8 * c.total.bytes)) (sym is) (first_here c g goes.place)

-- how many pictures were removed before it
first_removals : (c : Coder) (g : Group Samples) (b : Book) (coded : Bool) → b ≡ book_by c g → GoesOn c coded → b.ledger.account.removals ≡ c.total.pictures
first_removals c g b coded is goes = ap (λ (x : Book). x.ledger.account.removals) is ∙ removals_at c.ledger (length c.ledger.kinds) ∙ goes.removals

-- another group can follow
pub goes_on : (c d : Coder) (g : Group Samples) (b : Book) (coded : Bool) → IsBook b → b ≡ book_by c g → GoesOn c coded
    → d.settings ≡ c.settings → d.ledger ≡ whole_ledger b → d.before ≡ anchor_behind b → d.total.pictures ≡ c.total.pictures + length b.pictures
    → IsPlace b.settings (account_at (whole_ledger b) (length b.pictures)) (8 * d.total.bytes) → GoesOn d true
goes_on c d g b coded h is goes settings ledger before pictures place =
    let same : b.settings ≡ d.settings = ap (λ (x : Book). x.settings) is ∙ sym settings in
    let kinds : length d.ledger.kinds ≡ length b.pictures = ap (λ (l : Entries). length l.kinds) ledger ∙ whole_kinds b h in
    let at : account_at (whole_ledger b) (length b.pictures) ≡ account_at d.ledger (length d.ledger.kinds) =
    ap (λ (l : Entries). account_at l (length b.pictures)) (sym ledger) ∙ ap (account_at d.ledger) (sym kinds) in
    record {
      settings = ap (λ (l : Entries). l.settings) ledger ∙ whole_settings b h ∙ same;
      steady = subst IsSteady (sym ledger) (whole_ledger_is b h).steady;
      known = ap (λ (l : Entries). length l.sizes) ledger ∙ whole_sizes b ∙ sym kinds;
      removals = omega (arith, ap (λ (l : Entries). l.account.removals) ledger, removals_kept b, first_removals c g b coded is goes, kinds, pictures);
      place = subst (λ (s : Settings). IsPlace s (account_at d.ledger (length d.ledger.kinds)) (8 * d.total.bytes)) same
          (subst (λ (a : _). IsPlace b.settings a (8 * d.total.bytes)) at place);
      before = ap is_some before ∙ anchor_some b h;
      size = subst (λ (s : Settings). IfSome d.before (λ (f : Samples). f.dims ≡ dims_of s)) same
          (subst (λ (o : Option Samples). IfSome o (λ (f : Samples). f.dims ≡ dims_of b.settings)) (sym before) (anchor_size b h));
    }
