-- What is written of what was made of pieces.
use Rattle.std.proofs.Common.{◌≡◌, ℕ, ◌+◌, ◌-◌, ◌≤◌, List, [], ◌∷◌, ◌++◌, length, map, drop, refl, sym, ap, subst, ◌∙◌, append_assoc, append-nil, arith}
use Rattle.std.proofs.lemmas.Grind.{flat_map-append}
use Rattle.std.proofs.lemmas.List.{map-append, nil_from_length, take-append-drop, length-drop}
use Rattle.m2v_port.specs.Port.{GrowsByPrefix}
use Rattle.m2v_port.proofs.Runs.{grows_by_nothing, grows_by_none, prefix_on, prefix_of_more}
use Rattle.m2v_model.specs.Units.{joined}
use Rattle.m2v_model.specs.Pieces.{piece_of}
use Rattle.m2v_decode.specs.m2v_dec_piece.declared.answer.Piece.{Piece}
use Rattle.m2v_decode.specs.Decoding.{whole_of}
use Rattle.m2v_law_seam.specs.Spans.{stretches}
use Rattle.m2v_law_seam.specs.Mending as mending
use Rattle.m2v_law_seam.specs.Mending.{Mending}
use Rattle.m2v_mend.specs.declared.gap.Gap.{Gap}
use Rattle.m2v_mend.specs.declared.mender.Mender.{Mender}
use Rattle.m2v_mend.specs.declared.folding.Folding.{Folding}
use Rattle.m2v_mend.specs.Answers.{mended_bytes}
use Rattle.m2v_mend.specs.Gathering.{Gathering, with_piece, with_pieces, nothing_told, stretch_ended, finished, behind_stretches}
use Rattle.m2v_mend.specs.Making.{gap_told, IsMade, IsFolded, IsNextPiece}
use Rattle.m2v_mend.specs.Strand.{wholes_of}
use Rattle.m2v_mend.specs.Listing.{gap_line, lines_of, list_of}
use Rattle.m2v_mend.specs.Stretching.{Held, HaveGrown, ArePrefixes, all_but_last, IsForgotten, IsFlushed, IsPartOf, with_whole, IsNextIf, IsTaken, over_to, IsEnded}
use Rattle.m2v_mend.proofs.Growing.{Grew, grew_on, grew_pieces, grew_finished, grew_ended, strands_part, settled_part}
use Rattle.m2v_mend.proofs.Onward.{with_first, with_none}

-- ---- pieces are written, and gaps let go

-- all gaps but the last one, and that
parted : (gs : List Gap) → gs ≡ all_but_last gs ++ drop (length gs - 1) gs
parted gs = sym (take-append-drop (length gs - 1) gs)

none_left : (gs : List Gap) → drop (length gs - 1) gs ≡ [] → gs ≡ []
none_left gs e = nil_from_length gs (omega (arith, ap length e, length-drop (length gs - 1) gs))

-- as they are told, behind those that were listed
told_parted : (written : List ℕ) (listed : List mending.Gap) (m : Mending) (x : Mender) → IsMade written listed m x
    → m.gaps ≡ (listed ++ map gap_told (all_but_last x.gaps.items)) ++ map gap_told (drop (length x.gaps.items - 1) x.gaps.items)
told_parted written listed m x is =
    let front = all_but_last x.gaps.items in
    let last = drop (length x.gaps.items - 1) x.gaps.items in
    is.gaps ∙ ap (λ (l : List mending.Gap). listed ++ l) (ap (map gap_told) (parted x.gaps.items) ∙ map-append gap_told front last) ∙ sym (append_assoc listed (map gap_told front) (map gap_told last))

none_before : (written : List ℕ) (listed : List mending.Gap) (m : Mending) (x : Mender) → IsMade written listed m x → drop (length x.gaps.items - 1) x.gaps.items ≡ [] → listed ++ map gap_told (all_but_last x.gaps.items) ≡ []
none_before written listed m x is e =
    let none = none_left x.gaps.items e in
    ap (λ (l : List mending.Gap). l ++ map gap_told (all_but_last x.gaps.items)) (is.last none) ∙ ap (λ (l : List Gap). map gap_told (all_but_last l)) none

made_on : (written : List ℕ) (listed : List mending.Gap) (m : Mending) (old new : Folding) → (f : IsForgotten old new) → IsMade written listed m old.mender
    → IsMade (written ++ joined (wholes_of old.mender.out.items)) (listed ++ map gap_told (all_but_last old.mender.gaps.items)) m (record old.mender { out = new.mender.out; gaps = new.mender.gaps })
made_on written listed m old new f is = record {
  strand = is.strand;
  first = is.first;
  low = is.low;
  groups = is.groups;
  frames = is.frames;
  bytes = is.bytes;
  out = is.out ∙ sym (append-nil (written ++ joined (wholes_of old.mender.out.items))) ∙ ap (λ (l : List Piece). (written ++ joined (wholes_of old.mender.out.items)) ++ joined (wholes_of l)) (sym f.none);
  gaps = told_parted written listed m old.mender is ∙ ap (λ (l : List Gap). (listed ++ map gap_told (all_but_last old.mender.gaps.items)) ++ map gap_told l) (sym f.gaps);
  last = λ e. none_before written listed m old.mender is (sym f.gaps ∙ e);
  left = is.left;
  fault = is.fault;
}

folded_on : (written : List ℕ) (listed : List mending.Gap) (g : Gathering) (old new : Folding) → (f : IsForgotten old new) → IsFolded written listed g old
    → IsFolded (written ++ joined (wholes_of old.mender.out.items)) (listed ++ map gap_told (all_but_last old.mender.gaps.items)) g new
folded_on written listed g old new f is =
    subst (IsFolded (written ++ joined (wholes_of old.mender.out.items)) (listed ++ map gap_told (all_but_last old.mender.gaps.items)) g) (sym f.same)
    (record {
      made = made_on written listed g.tally.made old new f is.made;
      groups = is.groups;
      pictures = is.pictures;
      heads = is.heads;
      before = is.before;
      are = is.are;
      no_end = is.no_end;
      at_hand = is.at_hand;
      waiting = is.waiting;
      next = is.next;
    })

pub flushed : (held held' : Held) (old new : Folding) → HaveGrown held (joined (wholes_of old.mender.out.items)) (map gap_told (all_but_last old.mender.gaps.items)) held' → IsForgotten old new → IsFlushed held held' old new
flushed held held' old new grown f = record {
  bytes = joined (wholes_of old.mender.out.items);
  gaps = map gap_told (all_but_last old.mender.gaps.items);
  grown = grown;
  folded = λ written listed g is. folded_on written listed g old new f is;
}

-- ---- a prefix

-- a prefix was written of what wasn't handed out yet
pub part_made : (held held' : Held) (x : Folding) → GrowsByPrefix held.text (joined (wholes_of x.mender.out.items)) held'.text → GrowsByPrefix held.list (lines_of (map gap_told (all_but_last x.mender.gaps.items))) held'.list
    → (written : List ℕ) (listed : List mending.Gap) (g : Gathering) → IsFolded written listed g x → IsPartOf g written listed held held'
part_made held held' x text list written listed g is = record {
  more = joined (wholes_of x.mender.out.items);
  strands = is.made.out;
  text = text;
  gaps = map gap_told (all_but_last x.mender.gaps.items);
  settled = record {
    more = map gap_told (drop (length x.mender.gaps.items - 1) x.mender.gaps.items);
    is = told_parted written listed g.tally.made x.mender is.made;
    last = λ e. none_before written listed g.tally.made x.mender is.made (none_told (drop (length x.mender.gaps.items - 1) x.mender.gaps.items) e);
  };
  list = list;
}
  where
    none_told : (gs : List Gap) → map gap_told gs ≡ [] → gs ≡ []
    none_told [] e = refl
    none_told (g ∷ gs) e = absurd cc

-- nothing was written of it
pub part_none : (written : List ℕ) (listed : List mending.Gap) (g : Gathering) (x : Folding) (held : Held) → IsFolded written listed g x → IsPartOf g written listed held held
part_none written listed g x held is =
    part_made held held x (grows_by_none (joined (wholes_of x.mender.out.items))) (grows_by_none (lines_of (map gap_told (all_but_last x.mender.gaps.items)))) written listed g is

-- the strands have more then
pub part_more : (g h : Gathering) (written : List ℕ) (listed : List mending.Gap) (held held' : Held) → Grew g.tally.made h.tally.made → IsPartOf g written listed held held' → IsPartOf h written listed held held'
part_more g h written listed held held' grew p = record {
  more = p.more ++ grew.more;
  strands = grew.is ∙ ap (λ (l : List ℕ). l ++ grew.more) p.strands ∙ append_assoc written p.more grew.more;
  text = prefix_of_more p.text grew.more;
  gaps = p.gaps;
  settled = grew.gaps (listed ++ p.gaps) p.settled;
  list = p.list;
}

-- it is one of the mended text and of its list
pub part_text : (text : List ℕ) (g : Gathering) (written : List ℕ) (listed : List mending.Gap) (start held held' : Held) → Grew g.tally.made (behind_stretches nothing_told (stretches text)).made → HaveGrown start written listed held
    → IsPartOf g written listed held held' → ArePrefixes text start held'
part_text text g written listed start held held' grew grown p =
    let all = strands_part text g.tally.made grew in
    let same : (written ++ p.more) ++ all.0 ≡ mended_bytes text = ap (λ (l : List ℕ). l ++ all.0) (sym p.strands) ∙ sym all.1 in
    let lines = settled_part text g.tally.made (listed ++ p.gaps) grew p.settled in
    let list : (lines_of listed ++ lines_of p.gaps) ++ lines.0 ≡ list_of text = ap (λ (l : List ℕ). l ++ lines.0) (sym (flat_map-append gap_line listed p.gaps)) ∙ sym lines.1 in
    record {
      mended = subst (λ (l : List ℕ). GrowsByPrefix start.text l held'.text) same (prefix_of_more (prefix_on grown.text p.text) all.0);
      listed = subst (λ (l : List ℕ). GrowsByPrefix start.list l held'.list) list (prefix_of_more (prefix_on grown.list p.list) lines.0);
    }

-- ---- a piece more

some_length : (n : ℕ) → (n ≡ 0 → ⊥) → 1 ≤ n
some_length n h = omega (arith, h)

whole_none : (g : Gathering) (p : Piece) → p.length ≡ 0 → p.length ≡ length (whole_of p) → with_whole g p ≡ g
whole_none g p zero len = ap (λ (w : List ℕ). with_pieces g (piece_of w)) (nil_from_length (whole_of p) (omega (arith, zero, len))) ∙ with_none g

some_by : (g : Gathering) (w : List ℕ) → 1 ≤ length w → with_pieces g (piece_of w) ≡ with_piece g w
some_by g [] le = absurd (omega (arith, le))
some_by g (b ∷ w) le = with_first g (b ∷ w) [] ∙ with_none (with_piece g (b ∷ w))

pub taken_none : (held : Held) (p : Piece) (x : Folding) → p.length ≡ 0 → IsTaken held held p x x
taken_none held p x zero = record {
  bytes = [];
  gaps = [];
  grown = record { text = grows_by_nothing held.text; list = grows_by_nothing held.list };
  folded = λ written listed g is next.
      subst (λ (h : Gathering). IsFolded (written ++ []) (listed ++ []) h x) (sym (whole_none g p zero next.0))
      (subst (λ (l : List mending.Gap). IsFolded (written ++ []) l g x) (sym (append-nil listed)) (subst (λ (w : List ℕ). IsFolded w listed g x) (sym (append-nil written)) is));
}

-- a piece that has a byte was taken, and what is kept by it written
abbrev Told : Piece → Folding → Folding → Type 0
Told p old mid = (written : List ℕ) (listed : List mending.Gap) (g : Gathering) → IsFolded written listed g old → IsNextPiece g p → IsFolded written listed (with_piece g (whole_of p)) mid

pub taken_some : (held held' : Held) (p : Piece) (old mid new : Folding) (zero : p.length ≡ 0 → ⊥) → Told p old mid → IsFlushed held held' mid new → IsTaken held held' p old new
taken_some held held' p old mid new zero told f = record {
  bytes = f.bytes;
  gaps = f.gaps;
  grown = f.grown;
  folded = λ written listed g is next.
      let some : 1 ≤ p.length = some_length p.length zero in
      subst (λ (h : Gathering). IsFolded (written ++ f.bytes) (listed ++ f.gaps) h new) (sym (some_by g (whole_of p) (omega (arith, some, next.0))))
      (f.folded written listed (with_piece g (whole_of p)) (told written listed g is (next.1 some)));
}

-- it wasn't taken
pub taken_not : (held : Held) (p : Piece) (x : Folding) (written : List ℕ) (listed : List mending.Gap) (g : Gathering) → IsFolded written listed g x → IsPartOf (with_whole g p) written listed held held
taken_not held p x written listed g is = part_more g (with_whole g p) written listed held held (grew_pieces (piece_of (whole_of p)) g) (part_none written listed g x held is)

-- what is kept by it wasn't written whole
pub taken_cut : (held held' : Held) (p : Piece) (old mid : Folding) (zero : p.length ≡ 0 → ⊥) → Told p old mid
    → ((written : List ℕ) (listed : List mending.Gap) (g : Gathering) → IsFolded written listed g mid → IsPartOf g written listed held held')
    → (written : List ℕ) (listed : List mending.Gap) (g : Gathering) → IsFolded written listed g old → IsNextIf g p → IsPartOf (with_whole g p) written listed held held'
taken_cut held held' p old mid zero told cut written listed g is next =
    let some : 1 ≤ p.length = some_length p.length zero in
    subst (λ (h : Gathering). IsPartOf h written listed held held') (sym (some_by g (whole_of p) (omega (arith, some, next.0))))
    (cut written listed (with_piece g (whole_of p)) (told written listed g is (next.1 some)))

-- ---- a stretch has ended

abbrev EndTold : Folding → Folding → Type 0
EndTold old mid = (written : List ℕ) (listed : List mending.Gap) (g : Gathering) (place : ℕ) → IsFolded written listed g old → g.place + length (joined g.pieces) ≤ place → IsFolded written listed (over_to g place) mid

pub ended_then : (held held' : Held) (old mid new : Folding) → EndTold old mid → IsFlushed held held' mid new → IsEnded held held' old new
ended_then held held' old mid new told f = record {
  bytes = f.bytes;
  gaps = f.gaps;
  grown = f.grown;
  folded = λ written listed g is place le. f.folded written listed (over_to g place) (told written listed g place is le);
}

pub ended_not : (held : Held) (x : Folding) (written : List ℕ) (listed : List mending.Gap) (g : Gathering) (place : ℕ) → IsFolded written listed g x → IsPartOf (over_to g place) written listed held held
ended_not held x written listed g place is =
    part_more g (over_to g place) written listed held held (grew_on g.tally.made (finished g).made (stretch_ended (finished g)).made (grew_finished g) (grew_ended (finished g))) (part_none written listed g x held is)

pub ended_cut : (held held' : Held) (old mid : Folding) → EndTold old mid
    → ((written : List ℕ) (listed : List mending.Gap) (g : Gathering) → IsFolded written listed g mid → IsPartOf g written listed held held')
    → (written : List ℕ) (listed : List mending.Gap) (g : Gathering) (place : ℕ) → IsFolded written listed g old → IsPartOf (over_to g place) written listed held held'
ended_cut held held' old mid told cut written listed g place is =
    let end = g.place + length (joined g.pieces) in
    cut written listed (over_to g end) (told written listed g end is (omega arith))
