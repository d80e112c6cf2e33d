-- What holds of a text as more of it is read and written.
use Rattle.std.proofs.Common.{◌≡◌, ℕ, suc, ◌+◌, ◌^◌, ◌≤◌, Bool, true, false, List, [], ◌∷◌, ◌++◌, length, Option, Some, None, refl, sym, ap, subst, ◌∙◌, append_assoc, arith}
use Rattle.std.specs.Prelude.{if◌then◌else◌}
use Rattle.std.specs.Option.{option_map}
use Rattle.std.proofs.lemmas.Grind.{flat_map-append}
use Rattle.std.proofs.lemmas.List.{length-append}
use Rattle.m2v_port.specs.Port.{Moves, Grows}
use Rattle.m2v_port.proofs.Runs.{moves_nothing, moves_on, grows_by_nothing, grows_on}
use Rattle.m2v_model.specs.Units.{cut, joined}
use Rattle.m2v_model.specs.Pieces.{piece_of, limit, Limit, too_long, too_large}
use Rattle.m2v_dec_piece.proofs.TextLaws.{left_whole}
use Rattle.m2v_decode.specs.m2v_dec_piece.declared.answer.Piece.{Piece}
use Rattle.m2v_decode.specs.m2v_dec_piece.declared.answer.DecodeError.{DecodeError}
use Rattle.m2v_decode.specs.m2v_dec_piece.declared.answer.DecodeError.TheVariants as reading
use Rattle.m2v_mend.specs.declared.answer.MendError.{MendError}
use Rattle.m2v_mend.specs.declared.answer.MendError.TheVariants as errors
use Rattle.m2v_decode.specs.m2v_dec_piece.Cutting.{Cutting, PieceStops, phase_for, open_start, open_pieces, start_of, left_of, follows_of}
use Rattle.m2v_decode.specs.m2v_dec_piece.Following.{following_in}
use Rattle.m2v_decode.specs.m2v_dec_piece.Stepping.{Stopped}
use Rattle.m2v_decode.specs.Decoding.{whole_of}
use Rattle.m2v_law_seam.specs.Spans.{stretches, stretches_from, units_in}
use Rattle.m2v_law_seam.specs.Mending as mending
use Rattle.m2v_mend.specs.declared.folding.Folding.{Folding}
use Rattle.m2v_mend.specs.Answers.{first_limit, limit_among, limit_from, mend_limit}
use Rattle.m2v_mend.specs.Feeding.{bare_pieces, IsOwn, IsBare, Fed, IsOnward, within, nothing_read}
use Rattle.m2v_mend.specs.Gathering.{Tally, Gathering, with_pieces, before_stretch, nothing_told, stretch_ended, finished, behind_stretches}
use Rattle.m2v_mend.specs.Making.{IsFolded}
use Rattle.m2v_mend.specs.Listing.{gap_line}
use Rattle.m2v_mend.specs.Stretching.{Held, HaveGrown, ArePrefixes, Standing, Fell, FellOut, IsAnswered, PastLimit, IsPast, IsPartOf, with_whole, IsNextIf, IsTaken, over_to, IsEnded, OnWay, InStretch, IsBefore, IsRead, IsBehind, Comes, IsCut}
use Rattle.m2v_mend.proofs.Flushing.{part_none, part_text}
use Rattle.m2v_mend.proofs.Growing.{Grew, grew_on, grew_stretch, grew_stretches}
use Rattle.m2v_mend.proofs.Onward.{way_on, way_next, way_begun, start_begun, follows_begun, IsOverAt, way_over}
use Rattle.m2v_mend.proofs.Passing.{among_long, among_large}
use Rattle.m2v_mend.proofs.Stretched.{all_follows, over_twice}

-- ---- bytes more

pub moved_some : {left left' : Option (List ℕ)} {bytes rest : List ℕ} → Moves left bytes left' → left' ≡ Some rest → left ≡ Some (bytes ++ rest)
moved_some {left} {left'} {bytes} {rest} m e = m.was ∙ ap (option_map (λ (r : List ℕ). bytes ++ r)) e

pub comes_as : (P Q : Standing) (first left : Option (List ℕ)) (start held : Held) → ((text written : List ℕ) (listed : List mending.Gap) (rest : List ℕ) → P text written listed rest → Q text written listed rest) → Comes P first left start held → Comes Q first left start held
comes_as P Q first left start held f x = record {
  bytes = x.bytes;
  moved = x.moved;
  written = x.written;
  listed = x.listed;
  grown = x.grown;
  told = λ rest e. f (x.bytes ++ rest) x.written x.listed rest (x.told rest e);
}

-- bytes are read
pub comes_read : (P Q : Standing) (first left left' : Option (List ℕ)) (start held : Held) (bytes : List ℕ) → Moves left bytes left'
    → ((text written : List ℕ) (listed : List mending.Gap) (rest : List ℕ) → left' ≡ Some rest → P text written listed (bytes ++ rest) → Q text written listed rest) → Comes P first left start held → Comes Q first left' start held
comes_read P Q first left left' start held bytes m f x = record {
  bytes = x.bytes ++ bytes;
  moved = moves_on x.moved m;
  written = x.written;
  listed = x.listed;
  grown = x.grown;
  told = λ rest e. subst (λ (text : List ℕ). Q text x.written x.listed rest) (sym (append_assoc x.bytes bytes rest)) (f (x.bytes ++ (bytes ++ rest)) x.written x.listed rest e (x.told (bytes ++ rest) (moved_some m e)));
}

-- two runs, one behind the other
both_grown : (start held held' : Held) (written bytes : List ℕ) (listed gaps : List mending.Gap) → HaveGrown start written listed held → HaveGrown held bytes gaps held' → HaveGrown start (written ++ bytes) (listed ++ gaps) held'
both_grown start held held' written bytes listed gaps a b = record {
  text = grows_on a.text b.text;
  list = subst (λ (l : List ℕ). Grows start.list l held'.list) (sym (flat_map-append gap_line listed gaps)) (grows_on a.list b.list);
}

-- bytes and lines are written
pub comes_written : (P Q : Standing) (first left : Option (List ℕ)) (start held held' : Held) (bytes : List ℕ) (gaps : List mending.Gap) → HaveGrown held bytes gaps held'
    → ((text written : List ℕ) (listed : List mending.Gap) (rest : List ℕ) → P text written listed rest → Q text (written ++ bytes) (listed ++ gaps) rest) → Comes P first left start held → Comes Q first left start held'
comes_written P Q first left start held held' bytes gaps grown f x = record {
  bytes = x.bytes;
  moved = x.moved;
  written = x.written ++ bytes;
  listed = x.listed ++ gaps;
  grown = both_grown start held held' x.written bytes x.listed gaps x.grown grown;
  told = λ rest e. f (x.bytes ++ rest) x.written x.listed rest (x.told rest e);
}

-- they are cut short
pub comes_cut : (P : Standing) (first left : Option (List ℕ)) (start held held' : Held)
    → ((text written : List ℕ) (listed : List mending.Gap) (rest : List ℕ) → P text written listed rest → HaveGrown start written listed held → ArePrefixes text start held') → Comes P first left start held → IsCut first left start held'
comes_cut P first left start held held' f x = record { bytes = x.bytes; moved = x.moved; told = λ rest e. f (x.bytes ++ rest) x.written x.listed rest (x.told rest e) x.grown }

-- ---- the next piece is at hand

-- a piece was handed out, and isn't taken yet
pub record HasNext (c : Cutting) (x : Folding) (q : Piece) (text written : List ℕ) (listed : List mending.Gap) (rest : List ℕ) : Type 0 where
  pub gathering : Gathering
  pub folded : IsFolded written listed gathering x
  pub next : IsNextIf gathering q
  pub way : OnWay text (with_whole gathering q) c.place (left_of c rest) (follows_of c rest)
  pub start : start_of c rest ≡ c.place
  pub total : c.place + length (c.unread ++ rest) ≡ length text

total_on : (c c' : Cutting) (bytes rest text : List ℕ) → c'.place + length c'.unread ≡ (c.place + length c.unread) + length bytes → c.place + length (c.unread ++ (bytes ++ rest)) ≡ length text → c'.place + length (c'.unread ++ rest) ≡ length text
total_on c c' bytes rest text place total = omega (arith, place, total, length-append c.unread (bytes ++ rest), length-append bytes rest, length-append c'.unread rest)

piece_next : (c c' : Cutting) (x : Folding) (q : Piece) (left left' : Option (List ℕ)) → (f : Fed c left c' left' (Some q)) → IsOwn q → IsOnward (Some q) c c'
    → (text written : List ℕ) (listed : List mending.Gap) (rest : List ℕ) → left' ≡ Some rest → InStretch c x text written listed (f.bytes ++ rest) → HasNext c' x q text written listed rest
piece_next c c' x q left left' f own onward text written listed rest e s =
    let n = f.next rest e in
    let w = n.0 in
    let g = s.gathering in
    let is : IsBare q c.place w = subst (λ (at : ℕ). IsBare q at w) s.start n.2 in
    let way : OnWay text g c.place (w ∷ left_of c' rest) (follows_of c' rest) = subst (λ (l : List (List ℕ)). OnWay text g c.place l (follows_of c' rest)) n.1 (subst (OnWay text g c.place (left_of c (f.bytes ++ rest))) (f.behind rest e) s.way) in
    let place : c.place + length w ≡ c'.place = sym (n.3 ∙ ap (λ (at : ℕ). at + length w) s.start) in
    let fits = subst (λ (at : ℕ). limit at 0 w ≡ None) s.start n.4 in
    let later = way_on text g c.place w (left_of c' rest) (follows_of c' rest) fits way in
    let len : q.length ≡ length (whole_of q) = is.length_is ∙ sym (ap length is.whole) in
    record {
      gathering = g;
      folded = s.folded;
      next = (len, λ some. way_next text g c.place w (left_of c' rest) (follows_of c' rest) q way is own (f.zeros rest e) (omega (arith, some, len)));
      way = subst (λ (at : ℕ). OnWay text (with_whole g q) at (left_of c' rest) (follows_of c' rest)) place
          (subst (λ (b : List ℕ). OnWay text (with_pieces g (piece_of b)) (c.place + length w) (left_of c' rest) (follows_of c' rest)) (sym is.whole) later);
      start = start_begun c' rest onward.2;
      total = total_on c c' f.bytes rest text f.place s.total;
    }

pub has_next : (c c' : Cutting) (x : Folding) (q : Piece) (first left left' : Option (List ℕ)) (start held : Held) → Fed c left c' left' (Some q) → IsOwn q → IsOnward (Some q) c c'
    → Comes (InStretch c x) first left start held → Comes (HasNext c' x q) first left' start held
has_next c c' x q first left left' start held f own onward h = comes_read (InStretch c x) (HasNext c' x q) first left left' start held f.bytes f.moved (piece_next c c' x q left left' f own onward) h

-- ---- it is taken

pub takes_next : (c : Cutting) (x x' : Folding) (q : Piece) (first left : Option (List ℕ)) (start held held' : Held) → IsTaken held held' q x x' → Comes (HasNext c x q) first left start held → Comes (InStretch c x') first left start held'
takes_next c x x' q first left start held held' t h = comes_written (HasNext c x q) (InStretch c x') first left start held held' t.bytes t.gaps t.grown (λ text written listed rest n.
    record { gathering = with_whole n.gathering q; folded = t.folded written listed n.gathering n.folded n.next; way = n.way; start = n.start; total = n.total }) h

grew_way : (text : List ℕ) (g : Gathering) (start : ℕ) (raws : List (List ℕ)) (follows : List ℕ) → OnWay text g start raws follows → Grew g.tally.made (behind_stretches nothing_told (stretches text)).made
grew_way text g start raws follows way =
    let t = stretch_ended (finished (with_pieces g (bare_pieces raws))) in
    subst (λ (x : Tally). Grew g.tally.made x.made) (sym way.made) (grew_on g.tally.made t.made _ (grew_stretch g (bare_pieces raws)) (grew_stretches _ t))

pub not_taken : (c : Cutting) (x : Folding) (q : Piece) (first left : Option (List ℕ)) (start held held' : Held)
    → ((written : List ℕ) (listed : List mending.Gap) (g : Gathering) → IsFolded written listed g x → IsNextIf g q → IsPartOf (with_whole g q) written listed held held')
    → Comes (HasNext c x q) first left start held → IsCut first left start held'
not_taken c x q first left start held held' cut h = comes_cut (HasNext c x q) first left start held held' (λ text written listed rest n grown.
    part_text text (with_whole n.gathering q) written listed start held held' (grew_way text (with_whole n.gathering q) c.place (left_of c rest) (follows_of c rest) n.way) grown (cut written listed n.gathering n.folded n.next)) h

-- no piece was handed out
pub feed_stops : (c : Cutting) (x : Folding) (first left left' : Option (List ℕ)) (start held : Held) (e : DecodeError) → Stopped c left left' e → Comes (InStretch c x) first left start held → IsCut first left' start held
feed_stops c x first left left' start held e s h =
    comes_cut (InStretch' s.bytes) first left' start held held (λ text written listed rest n grown.
    part_text text n.gathering written listed start held held (grew_way text n.gathering c.place (left_of c (s.bytes ++ rest)) (follows_of c (s.bytes ++ rest)) n.way) grown (part_none written listed n.gathering x held n.folded))
    (comes_read (InStretch c x) (InStretch' s.bytes) first left left' start held s.bytes s.moved (λ text written listed rest e n. n) h)
  where
    InStretch' : List ℕ → Standing
    InStretch' bytes text written listed rest = InStretch c x text written listed (bytes ++ rest)

-- since it passes a limit
past_as : (l : Limit) (c : Cutting) (x : Folding) (first left left' : Option (List ℕ)) (start held : Held) (bytes : List ℕ) → Moves left bytes left'
    → ((rest : List ℕ) → left' ≡ Some rest → start_of c (bytes ++ rest) ≡ c.place → limit_among c.place (left_of c (bytes ++ rest)) ≡ Some l) → Comes (InStretch c x) first left start held → PastLimit l first left'
past_as l c x first left left' start held bytes m passes h = record {
  bytes = h.bytes ++ bytes;
  moved = moves_on h.moved m;
  told = λ rest e.
      let s = h.told (bytes ++ rest) (moved_some m e) in
      let w = s.way in
      subst (λ (text : List ℕ). mend_limit text ≡ Some l) (sym (append_assoc h.bytes bytes rest))
      (w.limits ∙ ap (λ (o : Option Limit). first_limit o (limit_from w.fuel w.end (follows_of c (bytes ++ rest)))) (passes rest e s.start));
}

pub feed_past : (c : Cutting) (x : Folding) (first left left' : Option (List ℕ)) (start held : Held) (e : DecodeError) (a : MendError) → IsAnswered e a → c.place ≤ 2 ^ 36 → Stopped c left left' e → Comes (InStretch c x) first left start held → IsPast a first left'
feed_past c x first left left' start held reading.Read a is le s h = subst (λ (b : MendError). IsPast b first left') (sym is) tt
feed_past c x first left left' start held reading.Write a is le s h = absurd is
feed_past c x first left left' start held (reading.Stream f) a is le s h = absurd is
feed_past c x first left left' start held reading.TooLong a is le s h =
    subst (λ (b : MendError). IsPast b first left') (sym is)
    (past_as too_long c x first left left' start held s.bytes s.moved (λ rest e st. among_long c.place (left_of c (s.bytes ++ rest)) le (subst (λ (at : ℕ). PieceStops at (left_of c (s.bytes ++ rest)) reading.TooLong) st (s.why rest e))) h)
feed_past c x first left left' start held reading.PictureTooLarge a is le s h =
    subst (λ (b : MendError). IsPast b first left') (sym is)
    (past_as too_large c x first left left' start held s.bytes s.moved (λ rest e st. among_large c.place (left_of c (s.bytes ++ rest)) (subst (λ (at : ℕ). PieceStops at (left_of c (s.bytes ++ rest)) reading.PictureTooLarge) st (s.why rest e))) h)
feed_past c x first left left' start held reading.Memory a is le s h = subst (λ (b : MendError). IsPast b first left') (sym is) tt

-- where it fails the input has failed
pub feed_fell : (Input Output : Type 0) (e : DecodeError) (a : MendError) → IsAnswered e a → (e ≡ reading.Read → Input) → Fell Input Output a
feed_fell Input Output reading.Read a is failed = subst (Fell Input Output) (sym is) (failed refl)
feed_fell Input Output reading.Write a is failed = absurd is
feed_fell Input Output (reading.Stream f) a is failed = absurd is
feed_fell Input Output reading.TooLong a is failed = subst (Fell Input Output) (sym is) tt
feed_fell Input Output reading.PictureTooLarge a is failed = subst (Fell Input Output) (sym is) tt
feed_fell Input Output reading.Memory a is failed = subst (Fell Input Output) (sym is) tt

-- where output alone can fail no limit is answered
pub none_past : (Output : Type 0) (a : MendError) (first left : Option (List ℕ)) → FellOut Output a → IsPast a first left
none_past Output errors.Write first left fell = tt
none_past Output errors.Memory first left fell = tt
none_past Output _ first left fell = absurd fell

pub fell_any : (Input Output : Type 0) (a : MendError) → FellOut Output a → Fell Input Output a
fell_any Input Output errors.Write fell = fell
fell_any Input Output errors.Memory fell = tt
fell_any Input Output _ fell = absurd fell

-- ---- no piece is left

follows_ended : (c : Cutting) (rest : List ℕ) → c.ended ≡ true → follows_of c rest ≡ c.unread ++ rest
follows_ended c rest on = ap (λ (e : Bool). if e then c.unread ++ rest else following_in c.begun (c.unread ++ rest)) on

pub all_read : (some : Bool) (c c' : Cutting) (x : Folding) (first left left' : Option (List ℕ)) (start held : Held) → Fed c left c' left' None → (some ≡ false → (c.begun ≡ true) × (c.ended ≡ false))
    → Comes (InStretch c x) first left start held → Comes (IsRead some c' x) first left' start held
all_read some c c' x first left left' start held f none h = comes_read (InStretch c x) (IsRead some c' x) first left left' start held f.bytes f.moved (λ text written listed rest e s.
    let n = f.next rest e in
    let on : c'.ended ≡ true = n.3 in
    let g = s.gathering in
    let place : c.place ≡ c'.place = sym (n.2 ∙ s.start) in
    let way : OnWay text g c'.place (left_of c' rest) (follows_of c' rest) =
    subst (λ (at : ℕ). OnWay text g at (left_of c' rest) (follows_of c' rest)) place (subst (λ (l : List (List ℕ)). OnWay text g c.place l (follows_of c' rest)) (n.0 ∙ sym n.1) (subst (OnWay text g c.place (left_of c (f.bytes ++ rest))) (f.behind rest e) s.way)) in
    record {
      in_stretch = record { gathering = g; folded = s.folded; way = way; start = start_ended c' rest on; total = total_on c c' f.bytes rest text f.place s.total };
      ended = on;
      none = λ off. let b = none off in sym (follows_ended c' rest on) ∙ sym (f.behind rest e) ∙ none_left c (f.bytes ++ rest) b.0 b.1 n.0;
    }) h
  where
    start_ended : (c : Cutting) (rest : List ℕ) → c.ended ≡ true → start_of c rest ≡ c.place
    start_ended c rest on = ap (λ (e : Bool). if e then c.place else open_start (phase_for c.begun) c.place (c.unread ++ rest)) on

    none_left : (c : Cutting) (text : List ℕ) → c.begun ≡ true → c.ended ≡ false → left_of c text ≡ [] → follows_of c text ≡ []
    none_left c text begun still none =
        let follows = follows_begun c text begun still in
        let same : follows_of c text ≡ c.unread ++ text = ap (λ (l : List (List ℕ)). joined l ++ follows_of c text) (sym none) ∙ left_whole c text begun in
        same ∙ all_follows (c.unread ++ text) (sym follows ∙ same)

-- ---- a stretch begins

stretch_begins : (c : Cutting) (x : Folding) → c.begun ≡ true → c.ended ≡ false → (text written : List ℕ) (listed : List mending.Gap) (rest : List ℕ) → IsBefore c x text written listed rest → InStretch c x text written listed rest
stretch_begins c x begun still text written listed rest b =
    let place = c.place + length (cut 0 (c.unread ++ rest)).0 in
    record {
      gathering = before_stretch b.tally place b.before;
      folded = b.folded place (omega arith);
      way = way_begun text b.tally b.before c rest begun still b.made b.units b.total b.fuel b.enough b.limits;
      start = start_begun c rest begun;
      total = b.total;
    }

pub begins : (c : Cutting) (x : Folding) (first left : Option (List ℕ)) (start held : Held) → c.begun ≡ true → c.ended ≡ false → Comes (IsBefore c x) first left start held → Comes (InStretch c x) first left start held
begins c x first left start held begun still h = comes_as (IsBefore c x) (InStretch c x) first left start held (stretch_begins c x begun still) h

-- ---- a stretch ends

over_at : (some : Bool) (c : Cutting) (x : Folding) (text written : List ℕ) (listed : List mending.Gap) (rest : List ℕ) → (r : IsRead some c x text written listed rest) → IsOverAt text r.in_stretch.gathering c.place (c.unread ++ rest)
over_at some c x text written listed rest r =
    let s = r.in_stretch in
    way_over text s.gathering c.place (c.unread ++ rest)
    (subst (λ (l : List (List ℕ)). OnWay text s.gathering c.place l (c.unread ++ rest)) (left_ended c rest r.ended) (subst (OnWay text s.gathering c.place (left_of c rest)) (follows_ended c rest r.ended) s.way)) s.total
  where
    left_ended : (c : Cutting) (rest : List ℕ) → c.ended ≡ true → left_of c rest ≡ []
    left_ended c rest on = ap (λ (e : Bool). if e then [] else open_pieces (phase_for c.begun) [] (c.unread ++ rest)) on

pub ends : (some : Bool) (c : Cutting) (x x' : Folding) (first left : Option (List ℕ)) (start held held' : Held) → IsEnded held held' x x' → Comes (IsRead some c x) first left start held → Comes (IsBehind some c x') first left start held'
ends some c x x' first left start held held' e h = comes_written (IsRead some c x) (IsBehind some c x') first left start held held' e.bytes e.gaps e.grown (λ text written listed rest r.
    let s = r.in_stretch in
    let g = s.gathering in
    let o = over_at some c x text written listed rest r in
    record {
      before = record {
        tally = stretch_ended (finished g);
        before = g.before ++ units_in g.pieces;
        folded = λ place le. e.folded written listed g s.folded place (omega (arith, o.within, le));
        made = o.made;
        units = o.units;
        over = over_twice (finished g);
        total = s.total;
        fuel = o.fuel;
        enough = o.enough;
        limits = o.limits;
      };
      none = r.none;
    }) h

pub not_ended : (some : Bool) (c : Cutting) (x : Folding) (first left : Option (List ℕ)) (start held held' : Held)
    → ((written : List ℕ) (listed : List mending.Gap) (g : Gathering) (place : ℕ) → IsFolded written listed g x → IsPartOf (over_to g place) written listed held held')
    → Comes (IsRead some c x) first left start held → IsCut first left start held'
not_ended some c x first left start held held' cut h = comes_cut (IsRead some c x) first left start held held' (λ text written listed rest r grown.
    let s = r.in_stretch in
    let g = s.gathering in
    let o = over_at some c x text written listed rest r in
    let t = stretch_ended (finished g) in
    part_text text (over_to g c.place) written listed start held held' (subst (λ (y : Tally). Grew t.made y.made) (sym o.made) (grew_stretches _ t)) grown (cut written listed g c.place s.folded)) h

-- ---- the whole

-- nothing was read
pub nothing_read_yet : (x : Folding) (left : Option (List ℕ)) (held : Held) → ((place : ℕ) → IsFolded [] [] (before_stretch nothing_told place []) x) → Comes (IsBefore nothing_read x) left left held held
nothing_read_yet x left held folded = record {
  bytes = [];
  moved = moves_nothing left;
  written = [];
  listed = [];
  grown = record { text = grows_by_nothing held.text; list = grows_by_nothing held.list };
  told = λ rest e. record {
    tally = nothing_told;
    before = [];
    folded = λ place le. folded place;
    made = ap (λ (n : ℕ). behind_stretches nothing_told (stretches_from n [] [] (cut 0 rest).1)) (omega arith);
    units = refl;
    over = refl;
    total = omega arith;
    fuel = suc (length rest);
    enough = omega arith;
    limits = refl;
  };
}

-- the next stretch
pub goes_on : (some : Bool) (c : Cutting) (x : Folding) (first left : Option (List ℕ)) (start held : Held) → Comes (IsBehind some c x) first left start held → Comes (IsBefore (within c) x) first left start held
goes_on some c x first left start held h = comes_as (IsBehind some c x) (IsBefore (within c) x) first left start held (λ text written listed rest b.
    let s = b.before in
    record { tally = s.tally; before = s.before; folded = s.folded; made = s.made; units = s.units; over = s.over; total = s.total; fuel = s.fuel; enough = s.enough; limits = s.limits }) h
