-- A cut that was written whole.
use Rattle.std.proofs.Common.{◌≡◌, ◌⊎◌, ℕ, ◌+◌, ◌-◌, ◌<◌, ◌≤◌, Bool, true, false, List, [], ◌∷◌, ◌++◌, length, take, drop, min, Option, Some, None, Result, Ok, Err, inl, inr, refl, sym, ap, subst, ◌∙◌, append_assoc, arith}
use Rattle.std.specs.Prelude.{nat_lt, slice_index, if◌then◌else◌}
use Rattle.std.proofs.lemmas.List.{append-nil, length-append, length-drop, length-take, length-take-le}
use Rattle.m2v_port.specs.Ends.{Change, change}
use Rattle.m2v_port.specs.Port.{Grows, GrowsByPrefix}
use Rattle.m2v_port.proofs.Runs.{moves_on, grows_on, prefix_on, rose_since}
use Rattle.m2v_model.specs.Units.{cut, joined}
use Rattle.m2v_model.specs.Pieces.{pieces}
use Rattle.m2v_decode.specs.m2v_dec_piece.declared.answer.Piece.{Piece}
use Rattle.m2v_decode.specs.m2v_dec_piece.Cutting.{Cutting, left_of}
use Rattle.m2v_decode.specs.Decoding.{whole_of}
use Rattle.m2v_decode.specs.Answers.{start_of, OfText, OfTaken}
use Rattle.m2v_decode.proofs.Going.{moved_some}
use Rattle.m2v_law_group.specs.Groups.{with_broken_link, groups_in, cut_units, cut_text, groups_chosen, stream_units, end_code, is_standalone}
use Rattle.m2v_cut.specs.declared.answer.CutSummary.{CutSummary}
use Rattle.m2v_cut.specs.declared.answer.CutError.{CutError}
use Rattle.m2v_cut.specs.declared.answer.CutError.TheVariants as errors
use Rattle.m2v_cut.specs.declared.copy.Copied.{Copied}
use Rattle.m2v_cut.specs.declared.find.Found.{Found}
use Rattle.m2v_cut.specs.declared.start.Start.{Start}
use Rattle.m2v_cut.specs.Answers.{units_of, groups_of, to_group, to_frame, needed, limit_of, limit_among, unlimited, by_limit, answer_to, copied, of_pieces, IsCutOut, IsPart, Fails}
use Rattle.m2v_cut.specs.Progress.{IsFound, Cuts, PutEnds, part, head_of, bytes_of, all_bytes, all_groups, all_lengths, are_some}
use Rattle.m2v_cut.specs.Starts.{IsStart, cut_place, piece_list, Second}
use Rattle.m2v_cut.specs.Behind.{BehindPut}
use Rattle.m2v_cut.proofs.Shapes.{Splits, pieces_split}
use Rattle.m2v_cut.proofs.Joins.{groups_on, onward_on}
use Rattle.m2v_cut.proofs.Decided.{LooksAt}
use Rattle.m2v_cut.proofs.Limits.{length_on, lt_true, to_group_all, to_group_stop, among_fit}
use Rattle.m2v_cut.proofs.Finals.{low_start, groups_text}
use Rattle.m2v_cut.proofs.Outcomes.{Taken, Here, here_of, copied_here}
use Rattle.m2v_cut.proofs.Parts.{looks_all, looks_read}
use Rattle.m2v_cut.proofs.Prefixes.{first_splits}
use Rattle.m2v_cut.proofs.Onwards.{units_length}
use Rattle.m2v_cut.proofs.Firsts.{start_fits}
use Rattle.m2v_decode.proofs.EndLaws.{whole_length}

-- how the pieces behind the first one end, in a text
abbrev pub Ends : ℕ → ℕ → List (List ℕ) → List (List ℕ) → List (List ℕ) → Type 0
Ends count groups mids [] later = (1 + all_groups mids ≤ count) × (groups ≡ 1 + all_groups mids) × (later ≡ [])
Ends count groups mids (q ∷ qs) later = (qs ≡ []) × (1 + all_groups mids ≤ count) × (count < (1 + all_groups mids) + groups_of q) × (groups ≡ count)

pub ends_at : (last : List (List ℕ)) (count groups : ℕ) (mids : List (List ℕ)) (others : List ℕ → List (List ℕ)) (new : Option (List ℕ)) (rest : List ℕ) → PutEnds last count (1 + all_groups mids) groups others new → new ≡ Some rest → Ends count groups mids last (others rest)
ends_at [] count groups mids others new rest p e = (p.0, p.1, p.2 rest e)
ends_at (q ∷ qs) count groups mids others new rest p e = p

pub ends_taken : (last : List (List ℕ)) (count groups : ℕ) (read mids later : List (List ℕ)) → read ≡ mids ++ last → Ends count groups mids last later → Taken count mids (read ++ later)
ends_taken [] count groups read mids later are e = inl ((λ i. are i ++ e.2 i) ∙ append-nil (mids ++ []) ∙ append-nil mids, e.0)
ends_taken (q ∷ qs) count groups read mids later are e = inr (q, qs ++ later, ap (λ (l : List (List ℕ)). l ++ later) are ∙ append_assoc mids (q ∷ qs) later, e.1, e.2)

-- of the pieces that were read alone
pub ends_read : (last : List (List ℕ)) (count groups : ℕ) (read mids later : List (List ℕ)) → read ≡ mids ++ last → Ends count groups mids last later → Taken count mids read
ends_read [] count groups read mids later are e = inl (are ∙ append-nil mids, e.0)
ends_read (q ∷ qs) count groups read mids later are e = inr (q, qs, are, e.1, e.2)

-- the pieces that are read for the cut
reads_all : (last : List (List ℕ)) (text : List ℕ) (from n count groups : ℕ) (first : List (List ℕ)) (w : List ℕ) (read mids later : List (List ℕ)) → pieces text ≡ (first ++ w ∷ read) ++ later → read ≡ mids ++ last → Ends count groups mids last later → all_groups first ≤ from → n ≡ from - all_groups first → groups_of w ≡ n + 1
    → to_group (from + count) (pieces text) ≡ first ++ w ∷ read
reads_all [] text from n count groups first w read mids later are split e few number single =
    let all : pieces text ≡ first ++ w ∷ mids = are ∙ (λ i. (first ++ w ∷ split i) ++ e.2 i) ∙ append-nil _ ∙ ap (λ (l : List (List ℕ)). first ++ w ∷ l) (append-nil mids) in
    let g = groups_on first (w ∷ mids) in
    ap (to_group (from + count)) all ∙ to_group_all (first ++ w ∷ mids) (from + count) (omega (arith, g, few, number, single, e.0))
    ∙ ap (λ (l : List (List ℕ)). first ++ w ∷ l) (sym (append-nil mids) ∙ sym split)
reads_all (q ∷ qs) text from n count groups first w read mids later are split e few number single =
    let all : pieces text ≡ (first ++ w ∷ mids) ++ q ∷ (qs ++ later) = are ∙ ap (λ (l : List (List ℕ)). (first ++ w ∷ l) ++ later) split ∙ append_assoc first (w ∷ (mids ++ q ∷ qs)) later
    ∙ ap (λ (l : List (List ℕ)). first ++ w ∷ l) (append_assoc mids (q ∷ qs) later) ∙ sym (append_assoc first (w ∷ mids) (q ∷ (qs ++ later))) in
    let g = groups_on first (w ∷ mids) in
    ap (to_group (from + count)) all ∙ to_group_stop (first ++ w ∷ mids) q (qs ++ later) (from + count) (omega (arith, g, few, number, single, e.1)) (omega (arith, g, few, number, single, e.2))
    ∙ append_assoc first (w ∷ mids) (q ∷ [])
    ∙ ap (λ (l : List (List ℕ)). first ++ w ∷ (mids ++ q ∷ l)) (sym e.0)
    ∙ ap (λ (l : List (List ℕ)). first ++ w ∷ l) (sym split)

chosen_groups : (last : List (List ℕ)) (from n count groups all : ℕ) (first : List (List ℕ)) (w : List ℕ) (read mids later : List (List ℕ)) → all ≡ all_groups first + (groups_of w + (all_groups read + all_groups later)) → read ≡ mids ++ last → Ends count groups mids last later → all_groups first ≤ from → n ≡ from - all_groups first → groups_of w ≡ n + 1
    → (from < all) × (groups ≡ min count (all - from))
chosen_groups [] from n count groups all first w read mids later is split e few number single =
    let g = ap all_groups split ∙ groups_on mids [] in
    let z = ap all_groups e.2 in
    (omega (arith, is, few, number, single), omega (arith, is, g, z, few, number, single, e.0, e.1))
chosen_groups (q ∷ qs) from n count groups all first w read mids later is split e few number single =
    let g = ap all_groups split ∙ groups_on mids (q ∷ qs) in
    (omega (arith, is, few, number, single), omega (arith, is, g, few, number, single, e.1, e.2, e.3))

-- ---- the answer

pub whole_here : (text : List ℕ) (from count taken groups : ℕ) (f : Found) (read mids last later : List (List ℕ)) (start : Start) (second : Option Piece) (sequence : ℕ) → Here from taken text f read later → IsStart (cut 0 (whole_of f.piece)).1 f.number start → cut_place start second ≡ Some sequence
    → LooksAt second start.first (read ++ later) → read ≡ mids ++ last → Ends count groups mids last later
    → (cut_text text from count ≡ (head_of (whole_of f.piece) sequence start.header f.behind ++ all_bytes mids) ++ end_code) × (answer_to text from count ≡ Ok (record { groups = groups; bytes = length (cut_text text from count) }))
whole_here text from count taken groups f read mids last later start second sequence h is can looks split ends =
    let w : List ℕ = whole_of f.piece in
    let all : pieces text ≡ h.first ++ w ∷ (read ++ later) = h.are ∙ append_assoc h.first (w ∷ read) later in
    let c = copied_here text from f.number count h.first w (read ++ later) mids start second sequence (subst (λ (ps : List (List ℕ)). Splits ps (stream_units text)) all (pieces_split text)) h.few h.number h.here is can looks (ends_taken last count groups read mids later split ends) in
    let alone : is_standalone text from ≡ true = c.0 in
    let many : groups_in text ≡ all_groups h.first + (groups_of w + (all_groups read + all_groups later)) = omega (arith, groups_text text, ap all_groups all, groups_on h.first (w ∷ (read ++ later)), groups_on read later) in
    let chosen = chosen_groups last from f.number count groups (groups_in text) h.first w read mids later many split ends h.few h.number c.2 in
    let there : nat_lt from (groups_in text) ≡ true = lt_true from (groups_in text) chosen.0 in
    let reads : needed text from count ≡ h.first ++ w ∷ read = rw (there, alone) (reads_all last text from f.number count groups h.first w read mids later h.are split ends h.few h.number c.2) in
    let none : limit_of text (needed text from count) ≡ None = ap (limit_of text) reads ∙ low_start text (h.first ++ w ∷ read) h.low ∙ among_fit (h.first ++ w ∷ read) (start_of text) h.fit in
    let said : unlimited text from count ≡ Ok (record { groups = groups_chosen text from count; bytes = length (cut_text text from count) }) = rw (there, alone) refl in (
      ap (λ (l : List ℕ). l ++ end_code) (c.1 ∙ ap (λ (b : Bool). head_of w sequence start.header b ++ all_bytes mids) (sym h.behind)),
      (λ i. by_limit (none i) (said i)) ∙ ap (λ (k : ℕ). Ok (record { groups = k; bytes = length (cut_text text from count) })) (sym chosen.1),
    )

-- ---- how many bytes

all_length : (ps : List (List ℕ)) → length (all_bytes ps) ≡ all_lengths ps
all_length [] = refl
all_length (p ∷ ps) = omega (arith, length-append (bytes_of p) (all_bytes ps), length-take-le (length (joined (units_of p))) p (units_length p), all_length ps)

head_length : (whole : List ℕ) (sequence header : ℕ) (behind : Bool) → sequence ≤ header → header + 8 ≤ length whole → length (head_of whole sequence header behind) ≡ length whole - sequence
head_length whole sequence header true le within =
    omega (arith, le, within, length-append (part sequence (header + 7) whole) (with_broken_link (slice_index whole (header + 7)) ∷ drop (header + 8) whole), length-take ((header + 7) - sequence) (drop sequence whole), length-drop sequence whole, length-drop (header + 8) whole)
head_length whole sequence header false le within = length-drop sequence whole

module _ {S K : Type 0} (left : S → Option (List ℕ)) (input_faults : S → ℕ) (held : K → Option (List ℕ)) (output_faults : K → ℕ) where
  abbrev input : S → S → Change
  input = change left input_faults

  abbrev output : K → K → Change
  output = change held output_faults

  pub whole_told : (i0 i1 i2 i3 : S) (o0 o1 o2 o3 : K) (from count bytes : ℕ) (c c1 c2 : Cutting) (f : Found) (start : Start) (second : Option Piece) (sequence : ℕ) (new : Copied) (s : CutSummary) → IsFound from (input i0 i1) c f → Second start.first (left i1) (left i2) c c1 second
      → IsStart (cut 0 (whole_of f.piece)).1 f.number start → cut_place start second ≡ Some sequence → bytes ≡ f.piece.length - sequence → Grows (held o0) (head_of (whole_of f.piece) sequence start.header f.behind) (held o1)
      → BehindPut (piece_list second) count (record { groups = 1; bytes = bytes }) new (input i2 i3) (output o1 o2) c1 c2 → Grows (held o2) end_code (held o3) → s ≡ record { groups = new.groups; bytes = new.bytes + 4 }
      → OfText (input i0 i3) (λ text. IsCutOut text from count (output o0 o3) s)
  whole_told i0 i1 i2 i3 o0 o1 o2 o3 from count bytes c c1 c2 f start second sequence new s found sec is can counted head b end sum =
      let w : List ℕ = whole_of f.piece in
      let ws : List (List ℕ) = piece_list second in
      let on = onward_on (left i1) (left i2) (left i3) c c1 c2 ws b.read sec.onward b.onward in
      let got : List ℕ = (found.progress).bytes ++ on.bytes in
      let grown : Grows (held o0) ((head_of w sequence start.header f.behind ++ all_bytes b.mids) ++ end_code) (held o3) = grows_on (grows_on head b.grown) end in
      let fits = start_fits w f.number start second sequence is can in
      record {
        bytes = got;
        moved = moves_on (found.progress).moved on.moved;
        told = λ rest e.
            let text : List ℕ = got ++ rest in
            let later : List (List ℕ) = left_of c2 rest in
            let h = here_of from (input i0 i1) (left i3) c c2 f (ws ++ b.read) found on rest e in
            let led = (b.onward).told rest e in
            let looks : LooksAt second start.first ((ws ++ b.read) ++ later) = subst (LooksAt second start.first) (ap (λ (l : List (List ℕ)). ws ++ l) led.are ∙ sym (append_assoc ws b.read later))
            (looks_all second start.first (left_of c1) (left i2) ((b.onward).bytes ++ rest) sec.is (moved_some (left i2) (left i3) (b.onward).bytes rest (b.onward).moved e)) in
            let x = whole_here text from count (length got) new.groups f (ws ++ b.read) b.mids b.last later start second sequence h is can looks b.are (ends_at b.last count new.groups b.mids (left_of c2) (left i3) rest b.ends e) in
            let many : length (cut_text text from count) ≡ new.bytes + 4 = omega (
              arith,
              ap length x.0,
              length-append (head_of w sequence start.header f.behind ++ all_bytes b.mids) end_code,
              length-append (head_of w sequence start.header f.behind) (all_bytes b.mids),
              all_length b.mids,
              head_length w sequence start.header f.behind fits.ordered fits.within,
              b.bytes,
              counted,
              whole_length f.piece found.sound,
            ) in
            record {
              answer = x.1 ∙ ap (λ (k : ℕ). Ok (record { groups = new.groups; bytes = k })) many ∙ ap Ok (sym sum);
              grown = subst (λ (l : List ℕ). Grows (held o0) l (held o3)) (sym x.0) grown;
            };
      }

  -- the end code wasn't written whole
  end_part : (i0 i1 i2 i3 : S) (o0 o1 o2 o3 : K) (from count bytes : ℕ) (c c1 c2 : Cutting) (f : Found) (start : Start) (second : Option Piece) (sequence : ℕ) (new : Copied) → IsFound from (input i0 i1) c f → Second start.first (left i1) (left i2) c c1 second
      → IsStart (cut 0 (whole_of f.piece)).1 f.number start → cut_place start second ≡ Some sequence → Grows (held o0) (head_of (whole_of f.piece) sequence start.header f.behind) (held o1)
      → BehindPut (piece_list second) count (record { groups = 1; bytes = bytes }) new (input i2 i3) (output o1 o2) c1 c2 → GrowsByPrefix (held o2) end_code (held o3) → OfTaken (input i0 i3) (λ bytes text. IsPart bytes text from count (output o0 o3))
  end_part i0 i1 i2 i3 o0 o1 o2 o3 from count bytes c c1 c2 f start second sequence new found sec is can head b end =
      let w : List ℕ = whole_of f.piece in
      let ws : List (List ℕ) = piece_list second in
      let on = onward_on (left i1) (left i2) (left i3) c c1 c2 ws b.read sec.onward b.onward in
      let got : List ℕ = (found.progress).bytes ++ on.bytes in
      let out : List ℕ = head_of w sequence start.header f.behind ++ all_bytes b.mids in
      record {
        bytes = got;
        moved = moves_on (found.progress).moved on.moved;
        told = λ rest e.
            let text : List ℕ = got ++ rest in
            let later : List (List ℕ) = left_of c2 rest in
            let h = here_of from (input i0 i1) (left i3) c c2 f (ws ++ b.read) found on rest e in
            let led = (b.onward).told rest e in
            let near : LooksAt second start.first (ws ++ (b.read ++ later)) = subst (LooksAt second start.first) (ap (λ (l : List (List ℕ)). ws ++ l) led.are)
            (looks_all second start.first (left_of c1) (left i2) ((b.onward).bytes ++ rest) sec.is (moved_some (left i2) (left i3) (b.onward).bytes rest (b.onward).moved e)) in
            let looks : LooksAt second start.first ((ws ++ b.read) ++ later) = subst (LooksAt second start.first) (sym (append_assoc ws b.read later)) near in
            let ends = ends_at b.last count new.groups b.mids (left_of c2) (left i3) rest b.ends e in
            let x = whole_here text from count (length got) new.groups f (ws ++ b.read) b.mids b.last later start second sequence h is can looks b.are ends in
            let ps : List (List ℕ) = h.first ++ w ∷ (ws ++ b.read) in
            let k = copied_here (of_pieces ps) from f.number count h.first w (ws ++ b.read) b.mids start second sequence (first_splits text ps later h.are) h.few h.number h.here is can (looks_read second start.first b.read later near) (ends_read b.last count new.groups (ws ++ b.read) b.mids later b.are ends) in
            let alone : is_standalone (of_pieces ps) from ≡ true = k.0 in
            let all : copied (of_pieces ps) from count ≡ joined (cut_units from count (stream_units (of_pieces ps))) = rw alone refl in
            let same : copied (of_pieces ps) from count ≡ out = all ∙ k.1 ∙ ap (λ (x : Bool). head_of w sequence start.header x ++ all_bytes b.mids) (sym h.behind) in
            record {
              first = ps;
              others = later;
              are = h.are;
              within = λ some. omega (arith, length_on ps (start_of text), h.within);
              whole = out ++ end_code;
              is = inr (ap (λ (l : List ℕ). l ++ end_code) (sym same), sym x.0);
              grown = prefix_on (grows_on head b.grown) end;
            };
      }

  pub end_failed : (i0 i1 i2 i3 : S) (o0 o1 o2 o3 : K) (from count bytes : ℕ) (c c1 c2 : Cutting) (f : Found) (start : Start) (second : Option Piece) (sequence : ℕ) (new : Copied) (e : CutError) → output_faults o0 ≤ output_faults o2 → IsFound from (input i0 i1) c f → Second start.first (left i1) (left i2) c c1 second
      → IsStart (cut 0 (whole_of f.piece)).1 f.number start → cut_place start second ≡ Some sequence → Grows (held o0) (head_of (whole_of f.piece) sequence start.header f.behind) (held o1)
      → BehindPut (piece_list second) count (record { groups = 1; bytes = bytes }) new (input i2 i3) (output o1 o2) c1 c2 → Cuts end_code (output o2 o3) e → Fails from count (input i0 i3) (output o0 o3) e
  end_failed i0 i1 i2 i3 o0 o1 o2 o3 from count bytes c c1 c2 f start second sequence new errors.Write le found sec is can head b cut = (rose_since le cut.0, end_part i0 i1 i2 i3 o0 o1 o2 o3 from count bytes c c1 c2 f start second sequence new found sec is can head b cut.1)
  end_failed i0 i1 i2 i3 o0 o1 o2 o3 from count bytes c c1 c2 f start second sequence new errors.Memory le found sec is can head b cut = end_part i0 i1 i2 i3 o0 o1 o2 o3 from count bytes c c1 c2 f start second sequence new found sec is can head b cut
  end_failed i0 i1 i2 i3 o0 o1 o2 o3 from count bytes c c1 c2 f start second sequence new _ le found sec is can head b cut = absurd cut
