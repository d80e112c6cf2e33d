-- What follows for a text where a group was found.
use Rattle.std.proofs.Common.{◌≡◌, ◌⊎◌, ℕ, zero, suc, ◌+◌, ◌-◌, ◌*◌, ◌<◌, ◌≤◌, Bool, true, false, List, [], ◌∷◌, ◌++◌, length, take, drop, Option, Some, None, Result, Ok, Err, inl, inr, refl, sym, ap, subst, ◌∙◌, append_assoc, arith}
use Rattle.std.specs.Prelude.{nat_eq, nat_le, nat_lt, not, is_some, ◌&&◌, ◌||◌, if◌then◌else◌}
use Rattle.std.proofs.lemmas.List.{append-nil, length-append}
use Rattle.m2v_port.specs.Ends.{Change}
use Rattle.m2v_port.specs.Port.{Moves, Grows, GrowsByPrefix}
use Rattle.m2v_port.proofs.Runs.{moves_on, prefix_of_more}
use Rattle.m2v_model.specs.Units.{Units, cut, joined}
use Rattle.m2v_model.specs.Pieces.{pieces, limit, most_input}
use Rattle.m2v_model.specs.ByPieces.{end_of}
use Rattle.m2v_decode.specs.m2v_dec_piece.declared.answer.Piece.{Piece}
use Rattle.m2v_decode.specs.m2v_dec_piece.Cutting.{Cutting, left_of}
use Rattle.m2v_decode.specs.m2v_dec_piece.Cutting.{start_of as start_of_rest}
use Rattle.m2v_decode.specs.Decoding.{whole_of}
use Rattle.m2v_decode.proofs.EndLaws.{whole_length}
use Rattle.m2v_decode.specs.Answers.{start_of, AllFit, OfText, OfTaken}
use Rattle.m2v_decode.proofs.Going.{moved_some, ends_behind}
use Rattle.m2v_law_group.specs.Groups.{group_headers, before_group, from_group, cut_units, stream_units, is_standalone}
use Rattle.m2v_cut.specs.declared.find.Found.{Found}
use Rattle.m2v_cut.specs.declared.start.Start.{Start}
use Rattle.m2v_cut.specs.declared.look.FirstPicture.{FirstPicture}
use Rattle.m2v_cut.specs.Answers.{groups_of, first_picture, has_intra, copied, of_pieces, IsPart}
use Rattle.m2v_cut.specs.Progress.{Reached, Progress, HasGroup, IsFound, Led, Onward, ReadOn, head_of, all_bytes, all_groups, are_some}
use Rattle.m2v_cut.specs.Starts.{IsStart, is_intra_frame, cut_place}
use Rattle.m2v_cut.proofs.Shapes.{Split, Splits, begins_sequence}
use Rattle.m2v_cut.proofs.Fulls.{split_groups, headers-append}
use Rattle.m2v_cut.proofs.Places.{holds}
use Rattle.m2v_cut.proofs.Takings.{full_behind}
use Rattle.m2v_cut.proofs.Firsts.{some_place, and_true}
use Rattle.m2v_cut.proofs.Going.{start_place, end_more}
use Rattle.m2v_cut.proofs.Joins.{led_on}
use Rattle.m2v_cut.proofs.Decided.{LooksAt, At, at_group, decided}
use Rattle.m2v_cut.proofs.Written.{Ready, ready, Picks, picks_all, picks_some, written}
use Rattle.m2v_cut.proofs.Limits.{length_on}
use Rattle.m2v_cut.proofs.Prefixes.{first_splits}

-- ---- the bytes of a cut

-- these pieces are taken of those behind a group's first one
abbrev pub Taken : ℕ → List (List ℕ) → List (List ℕ) → Type 0
Taken count mids read =
    ((read ≡ mids) × (1 + all_groups mids ≤ count))
    ⊎ ((q : List ℕ) × (qs : List (List ℕ)) × (read ≡ mids ++ q ∷ qs) × (1 + all_groups mids ≤ count) × (count < (1 + all_groups mids) + groups_of q))

and_second : (a b : Bool) → (a && b) ≡ true → b ≡ true
and_second true b e = e
and_second false b e = absurd cc

pub intra_there : (start : Start) (second : Option Piece) (sequence : ℕ) → cut_place start second ≡ Some sequence → (start.first).intra ≡ true
intra_there start second sequence can =
    let p = some_place (start.long && is_intra_frame start.first second) start.sequence sequence can in
    by_second second (and_second start.long (is_intra_frame start.first second) p.0)
  where
    by_second : (o : Option Piece) → is_intra_frame start.first o ≡ true → (start.first).intra ≡ true
    by_second None e = and_true (start.first).intra _ e
    by_second (Some q) e = and_true (start.first).intra _ e

picture_found : (found : Option (List ℕ × List ℕ)) → has_intra found ≡ true → found ≡ None → ⊥
picture_found None on e = absurd cc
picture_found (Some p) on e = absurd cc

-- a piece has the group headers up to the last one
pub single_groups : (n : ℕ) (w : List ℕ) (later : List (List ℕ)) (us rest : Units) → (s : Split w later us rest) → n < group_headers s.vs → group_headers (from_group n s.vs) ≡ 1 → groups_of w ≡ n + 1
single_groups n w later us rest s here single =
    let h = holds n s.vs [] here in
    omega (arith, split_groups w later us rest s, ap group_headers h.whole, headers-append (before_group n s.vs) (from_group n s.vs), h.headers, single)

pub copied_here : (t : List ℕ) (from n count : ℕ) (first : List (List ℕ)) (w : List ℕ) (read mids : List (List ℕ)) (start : Start) (second : Option Piece) (sequence : ℕ) → Splits (first ++ w ∷ read) (stream_units t) → all_groups first ≤ from → n ≡ from - all_groups first → n < groups_of w
    → IsStart (cut 0 w).1 n start → cut_place start second ≡ Some sequence → LooksAt second start.first read → Taken count mids read
    → (is_standalone t from ≡ true) × (joined (cut_units from count (stream_units t)) ≡ head_of w sequence start.header (are_some first) ++ all_bytes mids) × (groups_of w ≡ n + 1)
copied_here t from n count first w read mids start second sequence s few number here is can looks taken =
    let us : Units = stream_units t in
    let a : At from n us first w read = at_group from n us first w read s few number here in
    let there = λ (e : first_picture (drop 1 (from_group n (cut 0 w).1)) ≡ None). picture_found (first_picture (drop 1 (from_group n (cut 0 w).1))) (sym (is.first).intra ∙ intra_there start second sequence can) e in
    let r = ready from n us first w read a there in
    let picks : Picks count (from_group n (a.split).vs) a.rest (all_bytes mids) = elim taken [
      | inl all ↦ picks_all count (from_group n (a.split).vs) a.rest mids (subst (λ (ps : List (List ℕ)). Splits ps a.rest) all.0 a.others) r.single all.1
      | inr some ↦
          picks_some count (from_group n (a.split).vs) a.rest mids some.0 some.1 (full_behind n (a.split).vs (record { shape = (a.split).shape; some = r.some }) a.here)
          (subst (λ (ps : List (List ℕ)). Splits ps a.rest) some.2 a.others) r.single some.3 some.4
    ] in (
      decided from n us first w read start second a (begins_sequence t) is looks ∙ ap is_some can,
      written from n count us first w read start second sequence (all_bytes mids) a r is can picks,
      single_groups n w read a.back a.rest a.split a.here r.single,
    )

-- ---- what was read

-- the piece of a group was found in a text, and these were read behind it
pub record Here (from taken : ℕ) (text : List ℕ) (f : Found) (read later : List (List ℕ)) : Type 0 where
  pub group : HasGroup from f
  pub open group use *
  pub are : pieces text ≡ (first ++ whole_of f.piece ∷ read) ++ later
  pub fit : AllFit (start_of text) (first ++ whole_of f.piece ∷ read)
  pub low : start_of text ≤ most_input
  pub within : end_of (start_of text) (first ++ whole_of f.piece ∷ read) ≤ taken
  pub place : f.piece.place ≡ end_of (start_of text) first

-- and where the next one begins
pub here_at : (from : ℕ) (left : Change) (new : Option (List ℕ)) (c c' : Cutting) (f : Found) (read : List (List ℕ)) → (found : IsFound from left c f) → (on : Onward left.new new c c' read) → (rest : List ℕ) → new ≡ Some rest
    → (h : Here from (length ((found.progress).bytes ++ on.bytes)) (((found.progress).bytes ++ on.bytes) ++ rest) f read (left_of c' rest)) × (start_of_rest c' rest ≡ end_of (start_of (((found.progress).bytes ++ on.bytes) ++ rest)) (h.first ++ whole_of f.piece ∷ read))
here_at from left new c c' f read found on rest e =
    let so : Progress left c (found.first ++ whole_of f.piece ∷ []) = found.progress in
    let w : List ℕ = whole_of f.piece in
    let text : List ℕ = so.bytes ++ (on.bytes ++ rest) in
    let mid = moved_some left.new new on.bytes rest on.moved e in
    let r = so.told (on.bytes ++ rest) mid in
    let l = on.told rest e in
    let x = led_on (start_of text) (start_of_rest c (on.bytes ++ rest)) (start_of_rest c' rest) (pieces text) (left_of c (on.bytes ++ rest)) (left_of c' rest) (found.first ++ w ∷ []) read (record { are = r.are; fit = r.fit; place = r.place }) l in
    let all : (found.first ++ w ∷ []) ++ read ≡ found.first ++ w ∷ read = append_assoc found.first (w ∷ []) read in
    let taken = on.keeps (on.bytes ++ rest) rest mid e in
    let before = so.taken (on.bytes ++ rest) mid in
    let at = on.at rest e in
    let from_here = start_place c (on.bytes ++ rest) found.begun in
    subst (λ (t : List ℕ). (h : Here from (length (so.bytes ++ on.bytes)) t f read (left_of c' rest)) × (start_of_rest c' rest ≡ end_of (start_of t) (h.first ++ w ∷ read))) (sym (append_assoc so.bytes on.bytes rest)) (
      record {
        group = found.group;
        are = x.are ∙ ap (λ (ps : List (List ℕ)). ps ++ left_of c' rest) all;
        fit = subst (AllFit (start_of text)) all x.fit;
        low = omega (arith, ends_behind (start_of text) (found.first ++ w ∷ []), r.place, from_here, found.most);
        within = subst (λ (ps : List (List ℕ)). end_of (start_of text) ps ≤ length (so.bytes ++ on.bytes)) all (omega (arith, x.place, at, taken, before, length-append on.bytes rest, length-append so.bytes on.bytes));
        place = omega (arith, found.place, from_here, r.place, end_more found.first (start_of text) w, whole_length f.piece found.sound);
      },
      x.place ∙ ap (end_of (start_of text)) all,
    )

pub here_of : (from : ℕ) (left : Change) (new : Option (List ℕ)) (c c' : Cutting) (f : Found) (read : List (List ℕ)) → (found : IsFound from left c f) → (on : Onward left.new new c c' read) → (rest : List ℕ) → new ≡ Some rest
    → Here from (length ((found.progress).bytes ++ on.bytes)) (((found.progress).bytes ++ on.bytes) ++ rest) f read (left_of c' rest)
here_of from left new c c' f read found on rest e = (here_at from left new c c' f read found on rest e).0

here_later : (from taken more : ℕ) (text other : List ℕ) (f : Found) (read later : List (List ℕ)) → text ≡ other → taken ≤ more → Here from taken text f read later → Here from more other f read later
here_later from taken more text other f read later e le h = subst (λ (t : List ℕ). Here from more t f read later) e (record {
  group = h.group;
  are = h.are;
  fit = h.fit;
  low = h.low;
  within = omega (arith, h.within, le);
  place = h.place;
})

-- bytes were read behind them
pub here_read : (from : ℕ) (left : Change) (new : Option (List ℕ)) (c : Cutting) (f : Found) (read : List (List ℕ)) → (found : IsFound from left c f) → (on : ReadOn left.new new c read) → (rest : List ℕ) → new ≡ Some rest
    → Here from (length (((found.progress).bytes ++ (on.onward).bytes) ++ on.bytes)) ((((found.progress).bytes ++ (on.onward).bytes) ++ on.bytes) ++ rest) f read (left_of on.then_is (on.bytes ++ rest))
here_read from left new c f read found on rest e =
    let bytes : List ℕ = (found.progress).bytes ++ (on.onward).bytes in
    here_later from (length bytes) (length (bytes ++ on.bytes)) (bytes ++ (on.bytes ++ rest)) ((bytes ++ on.bytes) ++ rest) f read (left_of on.then_is (on.bytes ++ rest)) (sym (append_assoc bytes on.bytes rest)) (omega (arith, length-append bytes on.bytes))
    (here_of from left on.between c on.then_is f read found on.onward (on.bytes ++ rest) (moved_some on.between new on.bytes rest on.moved e))

-- ---- a prefix was written

pub part_here : (bytes text : List ℕ) (from count : ℕ) (held : Change) (f : Found) (read later mids : List (List ℕ)) (start : Start) (second : Option Piece) (sequence : ℕ) (out : List ℕ) → Here from (length bytes) text f read later → IsStart (cut 0 (whole_of f.piece)).1 f.number start → cut_place start second ≡ Some sequence
    → LooksAt second start.first read → Taken count mids read → out ≡ head_of (whole_of f.piece) sequence start.header f.behind ++ all_bytes mids → GrowsByPrefix held.old out held.new → IsPart bytes text from count held
part_here bytes text from count held f read later mids start second sequence out h is can looks taken e grown =
    let ps : List (List ℕ) = h.first ++ whole_of f.piece ∷ read in
    let c = copied_here (of_pieces ps) from f.number count h.first (whole_of f.piece) read mids start second sequence (first_splits text ps later h.are) h.few h.number h.here is can looks taken in
    let alone : is_standalone (of_pieces ps) from ≡ true = c.0 in
    let all : copied (of_pieces ps) from count ≡ joined (cut_units from count (stream_units (of_pieces ps))) = rw alone refl in
    let same : head_of (whole_of f.piece) sequence start.header f.behind ≡ head_of (whole_of f.piece) sequence start.header (are_some h.first) = ap (head_of (whole_of f.piece) sequence start.header) h.behind in
    record {
      first = ps;
      others = later;
      are = h.are;
      within = λ some. omega (arith, length_on ps (start_of text), h.within);
      whole = out;
      is = inl (e ∙ ap (λ (l : List ℕ). l ++ all_bytes mids) same ∙ sym c.1 ∙ sym all);
      grown = grown;
    }
