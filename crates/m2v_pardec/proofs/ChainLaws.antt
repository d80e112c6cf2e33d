-- Batch after batch: what stands once one is taken in, the next one's rows are decoded and pieces taken behind that.
use Rattle.std.proofs.Common.{◌≡◌, ℕ, ◌+◌, ◌*◌, ◌<◌, ◌≤◌, false, List, [], ◌++◌, length, map, Option, None, refl, sym, ap, subst, ◌∙◌, arith}
use Rattle.std.specs.Prelude.{if◌then◌else◌, nat_eq, IfSome, is_some, IsSome, option_to_list}
use Rattle.std.proofs.lemmas.Bool.{cond-false, ne_eqb}
use Rattle.std.proofs.lemmas.List.{append-nil}
use Rattle.m2v_plane.specs.declared.dims.Dims.{Dims}
use Rattle.m2v_plane.specs.Sizes.{IsSize}
use Rattle.m2v_plane.specs.Samples.{Samples}
use Rattle.m2v_model.specs.declared.state.State.{State}
use Rattle.m2v_dec_piece.specs.declared.answer.Piece.{Piece}
use Rattle.m2v_dec_piece.specs.declared.answer.DecodeError.{DecodeError}
use Rattle.m2v_dec_piece.specs.Cutting.{Cutting}
use Rattle.m2v_dec_batch.specs.m2v_dec_picture.declared.gallery.FramesAtHand.{FramesAtHand}
use Rattle.m2v_dec_batch.specs.m2v_dec_picture.Frames.{store_of}
use Rattle.m2v_dec_batch.specs.declared.picture.BatchPicture.{BatchPicture}
use Rattle.m2v_dec_batch.specs.declared.picture.FramePlace.{FramePlace}
use Rattle.m2v_dec_batch.specs.declared.picture.FramePlace.TheVariants.{Older, Newer, Waiting, Behind}
use Rattle.m2v_dec_batch.specs.Jobs.{older_before, newer_before}
use Rattle.m2v_dec_batch.specs.Batches.{Batch, headers, Rows, frame_at, IsBatch}
use Rattle.m2v_dec_batch.specs.Painted.{all_rows, older_behind, newer_behind}
use Rattle.m2v_dec_batch.proofs.Sizes.{count_is}
use Rattle.m2v_dec_batch.proofs.FrameSizes.{behind_size}
use Rattle.m2v_dec_batch.specs.Filled.{with_frames, is_there, AreThere, HaveDims}
use Rattle.m2v_dec_batch.proofs.Exchanging.{there_exchanged}
use Rattle.m2v_pardec.specs.Behind.{Tracks}
use Rattle.m2v_pardec.proofs.NextFrames.{tracks_first}
use Rattle.m2v_model.specs.Pictures.{Store}
use Rattle.m2v_dec_batch.specs.m2v_dec_rows.Headers.{IsBetween}
use Rattle.m2v_decode.specs.Decoding.{Decoding}
use Rattle.m2v_pardec.specs.declared.taking.Stop.{Stop}
use Rattle.m2v_pardec.specs.declared.taking.Stop.TheVariants.{More}
use Rattle.m2v_pardec.specs.declared.taking.Taken.{Taken}
use Rattle.m2v_pardec.specs.declared.taking.Rest.{Rest}
use Rattle.m2v_pardec.specs.declared.put.Worked.{Worked}
use Rattle.m2v_pardec.specs.Ahead.{AreInOrder, IsAhead, later_of}
use Rattle.m2v_pardec.specs.Taken.{piece_of, pieces_of, end_by, IsSet, AreTold, TellsOn, IsRest, works_left, batches_left, ReadOn}
use Rattle.m2v_pardec.specs.declared.stream.Stream.{Stream}
use Rattle.m2v_pardec.specs.Put.{WerePut, StopsBy, CountsOn, AreAllThere, TellsBehind}
use Rattle.m2v_pardec.specs.Chain.{CanPut, AreWaiting, IsUnderWay, WorksOn, WorksNext, GoesFrom, WrongFrom, TakingFails, PuttingFails, StopsTaking, StopsUnder}
use Rattle.m2v_pardec.proofs.PutLaws.{order_front, order_rises, order_lower}
use Rattle.m2v_pardec.proofs.TakenLaws.{end_by_most}
use Rattle.m2v_pardec.proofs.AheadLaws.{fails_weaker}

-- ---- frames

place_there : (b : Batch) (at : Rows) (x : FramePlace) → is_some (frame_at b at x) ≡ is_there b x
unfolding frame_at is_there
place_there b at Older = refl
place_there b at Newer = refl
place_there b at Waiting = refl
place_there b at (Behind p) = refl

place_size : (b : Batch) (at : Rows) (x : FramePlace) → IsBatch b → IfSome (frame_at b at x) (λ f. f.dims ≡ b.dims)
unfolding frame_at
place_size b at Older h = h.older
place_size b at Newer h = h.newer
place_size b at Waiting h = h.waiting
place_size b at (Behind p) h = behind_size b at p h

older_counted : (b : Batch) (at : Rows) → frame_at b at (older_before (headers b) (length (headers b))) ≡ frame_at b at (older_before (headers b) (length b.pictures))
older_counted b at = ap (λ (n : ℕ). frame_at b at (older_before (headers b) n)) (count_is b)

newer_counted : (b : Batch) (at : Rows) → frame_at b at (newer_before (headers b) (length (headers b))) ≡ frame_at b at (newer_before (headers b) (length b.pictures))
newer_counted b at = ap (λ (n : ℕ). frame_at b at (newer_before (headers b) n)) (count_is b)

-- frames behind a batch are those that pictures were taken for
pub frames_there : (b : Batch) (ss : List State) (t : Taken) (c : Cutting) (d : Decoding) (f : FramesAtHand) → IsUnderWay b ss t c d → f.older ≡ older_behind b → f.newer ≡ newer_behind b → f.waiting ≡ None → AreThere f t.pictures
frames_there b ss t c d f u o n w = record {
  older = ap (λ (x : Option Samples). is_some x) (o ∙ older_counted b (all_rows b)) ∙ place_there b (all_rows b) (older_before (headers b) (length b.pictures)) ∙ sym u.older;
  newer = ap (λ (x : Option Samples). is_some x) (n ∙ newer_counted b (all_rows b)) ∙ place_there b (all_rows b) (newer_before (headers b) (length b.pictures)) ∙ sym u.newer;
  waiting = ap (λ (x : Option Samples). is_some x) w ∙ sym u.waiting;
}

-- and have their size
pub frames_sized : (b : Batch) (ss : List State) (t : Taken) (c : Cutting) (d : Decoding) (f : FramesAtHand) → IsUnderWay b ss t c d → f.older ≡ older_behind b → f.newer ≡ newer_behind b → f.waiting ≡ None → HaveDims t.pictures.dims f
frames_sized b ss t c d f u o n w =
    let sized = λ (x : Option Samples) (p : FramePlace) (e : x ≡ frame_at b (all_rows b) p).
    subst (λ (k : Dims). IfSome x (λ y. y.dims ≡ k)) (sym u.dims) (subst (λ (y : Option Samples). IfSome y (λ z. z.dims ≡ b.dims)) (sym e) (place_size b (all_rows b) p u.batch)) in
    record {
      older = sized f.older (older_before (headers b) (length (headers b))) o;
      newer = sized f.newer (newer_before (headers b) (length (headers b))) n;
      waiting = subst (λ (y : Option Samples). IfSome y (λ z. z.dims ≡ t.pictures.dims)) (sym w) tt;
    }

-- behind the batch the frames at hand are those before the next one
pub tracks_behind : (b : Batch) (store : Store) (f : FramesAtHand) (t w : Batch) → Tracks b (length b.pictures) store → f.older ≡ older_behind b → f.newer ≡ newer_behind b → f.waiting ≡ None → w ≡ with_frames t f → IsBatch w → Tracks w 0 store
tracks_behind b store f t w tracks o n none is h =
    tracks_first w store
    (tracks.older ∙ sym (o ∙ older_counted b (all_rows b)) ∙ sym (ap (λ (x : Batch). x.older) is))
    (tracks.newer ∙ sym (n ∙ newer_counted b (all_rows b)) ∙ sym (ap (λ (x : Batch). x.newer) is))
    (λ second. absurd (nothing w.waiting (ap (λ (x : Batch). x.waiting) is ∙ none) (h.first second)))
  where
    nothing : (x : Option Samples) → x ≡ None → IsSome x → ⊥
    nothing x e s = absurd (cc (s, ap (λ (y : Option Samples). is_some y) e))

-- before the first batch they are those that it was taken for
pub first_tracks : (t : Taken) (f : FramesAtHand) (w : Worked) (d : Decoding) → w.book ≡ with_frames t.pictures f → Tracks (with_frames t.pictures f) 0 (store_of d.frames) → Tracks w.book 0 (store_of d.frames)
first_tracks t f w d is tracks = subst (λ (b : Batch). Tracks b 0 (store_of d.frames)) (sym is) tracks

-- ---- what waits

-- once the batch before was taken in, what was taken behind it waits
pub waiting_behind : (b : Batch) (ss : List State) (t : Taken) (c : Cutting) (d n : Decoding) → IsUnderWay b ss t c d → CountsOn (map piece_of b.pictures) d n → TellsBehind d.state b.pictures ss n.state → n.failed ≡ false → n.ended ≡ false
    → AreWaiting t c n
waiting_behind b ss t c d n u counts tells going before =
    let o = order_front (map piece_of b.pictures) (pieces_of t) d.pictures (end_by t.stop c.place) u.order in
    record {
      going = going;
      before = before;
      order = order_lower (pieces_of t) o.0 n.pictures (end_by t.stop c.place) (counts o.0 o.1) o.2;
      most = u.most;
      set = u.set;
      told = λ xs ys h. tells (t.pictures.pictures ++ xs) (t.after.items ++ ys) (u.told xs ys h);
      between = u.between;
    }

told_here : (st : State) (xs : List BatchPicture) (ss : List State) (last : State) → TellsOn st xs ss last → AreTold st xs ss
told_here st xs ss last told =
    subst (λ (l : List State). AreTold st xs l) (append-nil ss) (subst (λ (l : List BatchPicture). AreTold st l (ss ++ [])) (append-nil xs) (told [] [] tt))

-- the batch before can be taken in
pub can_put : (w : Worked) (t : Taken) (r : Rest) (s : Stream) → w.done ≡ w.book → IsUnderWay w.book w.after.items t s.cutter s.decoder → AreAllThere w.book → IsRest t r → CanPut w r s
can_put w t r s done u all is =
    let c = s.cutter in
    let ps = map piece_of w.book.pictures in
    let o = order_front ps (pieces_of t) s.decoder.pictures (end_by t.stop c.place) u.order in
    record {
      done = done;
      rebuilt = all;
      next = record { going = u.going; before = u.before; order = (o.0, omega (arith, order_rises (pieces_of t) o.0 (end_by t.stop c.place) o.2, end_by_most t.stop c.place u.most), o.1) };
      comes = record { told = u.here; tracks = u.tracks };
      more = record {
        known = record { between = subst IsBetween (sym is.state) u.between; size = subst IsSize (sym (is.dims ∙ u.dims)) (u.batch).size };
        set = subst (λ (x : Stop). IsSet x c) (sym is.stop) u.set;
        most = u.most;
      };
    }

-- once its rows are decoded and more was taken, it is under way
pub under_by : (t : Taken) (f : FramesAtHand) (c : Cutting) (left : Option (List ℕ)) (c' : Cutting) (left' : Option (List ℕ)) (w : Worked) (next : Taken) (d : Decoding) → AreWaiting t c d → WorksOn t f c left c' left' w next → AreThere f t.pictures
    → Tracks w.book 0 (store_of d.frames) → IsUnderWay w.book w.after.items next c' d
under_by t f c left c' left' w next d a x there tracks =
    let r = x.rest in
    let pictures : w.book.pictures ≡ t.pictures.pictures = ap (λ (b : Batch). b.pictures) x.book in
    let ps = map piece_of t.pictures.pictures in
    let order = subst (λ (s : Stop). AreInOrder d.pictures (ps ++ option_to_list r.other) (end_by s c.place)) (sym (x.is_rest).stop)
    (subst (λ (o : Option Piece). AreInOrder d.pictures (ps ++ option_to_list o) (end_by t.stop c.place)) (sym (x.is_rest).other) a.order) in
    let state : (ys : List BatchPicture) (zs : List State) → AreTold r.behind.state ys zs → AreTold t.state ys zs = λ ys zs h. subst (λ (s : State). AreTold s ys zs) (x.is_rest).state h in
    let place = λ (p : FramePlace). subst (λ (b : Batch). is_there t.pictures p ≡ is_there b p) (sym x.book) (sym (there_exchanged t.pictures f p there)) in
    record {
      batch = x.batch;
      going = a.going;
      before = a.before;
      order = subst (λ (l : List BatchPicture). AreInOrder d.pictures (map piece_of l ++ pieces_of next) (end_by next.stop c'.place)) (sym pictures) ((x.more).order d.pictures ps order);
      most = (x.more).most;
      set = (x.more).set;
      here = subst (λ (l : List BatchPicture). AreTold d.state l w.after.items) (sym pictures) (subst (AreTold d.state t.pictures.pictures) (sym x.after) (told_here d.state t.pictures.pictures t.after.items t.state a.told));
      told = λ xs ys h.
          subst (λ (l : List BatchPicture). AreTold d.state (l ++ (next.pictures.pictures ++ xs)) (w.after.items ++ (next.after.items ++ ys))) (sym pictures)
          (subst (λ (l : List State). AreTold d.state (t.pictures.pictures ++ (next.pictures.pictures ++ xs)) (l ++ (next.after.items ++ ys))) (sym x.after)
          (a.told (next.pictures.pictures ++ xs) (next.after.items ++ ys) (state (next.pictures.pictures ++ xs) (next.after.items ++ ys) ((x.behind).told xs ys h))));
      between = (x.behind).between;
      tracks = tracks;
      dims = (x.behind).dims ∙ (x.is_rest).dims ∙ sym (ap (λ (b : Batch). b.dims) x.book);
      older = subst (λ (b : Batch). is_some next.pictures.older ≡ is_there b (older_before (headers b) (length b.pictures))) (sym x.book)
          ((x.behind).older ∙ (x.is_rest).older ∙ sym (there_exchanged t.pictures f (older_before (headers t.pictures) (length t.pictures.pictures)) there));
      newer = subst (λ (b : Batch). is_some next.pictures.newer ≡ is_there b (newer_before (headers b) (length b.pictures))) (sym x.book)
          ((x.behind).newer ∙ (x.is_rest).newer ∙ sym (there_exchanged t.pictures f (newer_before (headers t.pictures) (length t.pictures.pictures)) there));
      waiting = (x.behind).waiting ∙ (x.is_rest).first;
    }

-- ---- pieces ahead

taken_ahead : (t : Taken) (r : Rest) (c : Cutting) (bl left b held : Option (List ℕ)) (ps : List Piece) (d : Decoding) → IsRest t r → IsAhead (later_of t.stop c) bl left b held (ps ++ pieces_of t) d
    → IsAhead (later_of r.stop c) bl left b held (ps ++ (map piece_of t.pictures.pictures ++ option_to_list r.other)) d
taken_ahead t r c bl left b held ps d is so =
    subst (λ (s : Stop). IsAhead (later_of s c) bl left b held (ps ++ (map piece_of t.pictures.pictures ++ option_to_list r.other)) d) (sym is.stop)
    (subst (λ (o : Option Piece). IsAhead (later_of t.stop c) bl left b held (ps ++ (map piece_of t.pictures.pictures ++ option_to_list o)) d) (sym is.other) so)

-- more was taken behind what waits
pub works_ahead : (t : Taken) (f : FramesAtHand) (c : Cutting) (left : Option (List ℕ)) (c' : Cutting) (left' : Option (List ℕ)) (w : Worked) (next : Taken) (bl b held : Option (List ℕ)) (d : Decoding) → WorksOn t f c left c' left' w next
    → IsAhead (later_of t.stop c) bl left b held (pieces_of t) d → IsAhead (later_of next.stop c') bl left' b held (map piece_of w.book.pictures ++ pieces_of next) d
works_ahead t f c left c' left' w next bl b held d x so =
    subst (λ (k : Batch). IsAhead (later_of next.stop c') bl left' b held (map piece_of k.pictures ++ pieces_of next) d) (sym x.book)
    ((x.more).ahead bl b held (map piece_of t.pictures.pictures) d (taken_ahead t x.rest c bl left b held [] d x.is_rest so))

-- memory ran out meanwhile
pub stops_taking : (t : Taken) (r : Rest) (c : Cutting) (left left' : Option (List ℕ)) → IsRest t r → TakingFails r c left left' → StopsTaking t c left left'
stops_taking t r c left left' is fails = λ bl b held d so. fails.fails bl b held (map piece_of t.pictures.pictures) d (taken_ahead t r c bl left b held [] d is so)

pub stops_under : (failed : Type 0) (b : Batch) (t : Taken) (r : Rest) (c : Cutting) (left held : Option (List ℕ)) (d : Decoding) (left' held' : Option (List ℕ)) (e : DecodeError) → IsRest t r → PuttingFails failed (map piece_of b.pictures) r c left held d left' held' e
    → StopsUnder failed b t c left held d left' held' e
stops_under failed b t r c left held d left' held' e is fails = λ bl bf so. fails bl bf (map piece_of t.pictures.pictures) (taken_ahead t r c bl left bf held (map piece_of b.pictures) d is so)

rest_rises : (t : Taken) (r : Rest) (c c' : Cutting) (stop : Stop) → IsRest t r → ((low : ℕ) → (r.stop ≡ More → low < c.place) → stop ≡ More → low < c'.place) → (low : ℕ) → (t.stop ≡ More → low < c.place) → stop ≡ More → low < c'.place
rest_rises t r c c' stop is rises = λ low before more. rises low (λ e. before (sym is.stop ∙ e)) more

pub works_rise : (t : Taken) (f : FramesAtHand) (c : Cutting) (left : Option (List ℕ)) (c' : Cutting) (left' : Option (List ℕ)) (w : Worked) (next : Taken) → WorksOn t f c left c' left' w next → (low : ℕ) → (t.stop ≡ More → low < c.place) → next.stop ≡ More → low < c'.place
works_rise t f c left c' left' w next x = rest_rises t x.rest c c' next.stop x.is_rest (x.more).rises

-- with a picture among what was taken, one work more is left
bit : (n : ℕ) → 0 < n → ◌≡◌ {A = ℕ} (if nat_eq n 0 then 0 else 1) 1
bit n h = cond-false (nat_eq n 0) 0 1 (ne_eqb n 0 (λ e. absurd (omega (arith, h, e))))

some_work : (t : Taken) (c : Cutting) → 0 < length t.pictures.pictures → works_left t c ≡ 2 * batches_left t.stop c + 1
some_work t c some = ap (λ (n : ℕ). 2 * batches_left t.stop c + n) (bit (length t.pictures.pictures) some)

-- the batch before was taken in, and the next one is under way
pub works_next : (b : Batch) (ss : List State) (t : Taken) (f : FramesAtHand) (c : Cutting) (left held : Option (List ℕ)) (d : Decoding) (c' : Cutting) (left' held' : Option (List ℕ)) (n : Decoding) (w : Worked) (next : Taken) → IsUnderWay b ss t c d
    → f.older ≡ older_behind b → f.newer ≡ newer_behind b → f.waiting ≡ None → WerePut (map piece_of b.pictures) d held n held' → TellsBehind d.state b.pictures ss n.state → Tracks b (length b.pictures) (store_of n.frames)
    → WorksOn t f c left c' left' w next → WorksNext b t c left held d c' left' held' n w next
works_next b ss t f c left held d c' left' held' n w next u o m none were tells tracks x =
    let there = frames_there b ss t c d f u o m none in
    record {
      done = x.done;
      ahead = λ bl bf so. works_ahead t f c left c' left' w next bl bf held' n x ((were.puts) (later_of t.stop c) bl left bf (pieces_of t) so);
      under = under_by t f c left c' left' w next n (waiting_behind b ss t c d n u were.counted tells were.going were.before) x there (tracks_behind b (store_of n.frames) f t.pictures w.book tracks o m none x.book x.batch);
      rises = works_rise t f c left c' left' w next x;
      falls = λ some. let falls = (x.more).falls in omega (arith, falls, some_work t c some, ap (λ (s : Stop). batches_left s c) (x.is_rest).stop);
    }

-- ---- at the end

pub read_both : (a b c : Stop) (first mid last : ℕ) → first ≤ mid → ReadOn a b first mid → ReadOn b c mid last → ReadOn a c first last
read_both a b c first mid last le now next = record { since = λ start few f. next.since start (omega (arith, few, le)) (now.since start few f) }

pub chain_ends : (t : Taken) (c : Cutting) (left held : Option (List ℕ)) (d : Decoding) (b : Batch) (ss : List State) (next : Taken) (c' : Cutting) (left' held' held'' : Option (List ℕ)) (m n : Decoding)
    → ((bl bf : Option (List ℕ)) → IsAhead (later_of t.stop c) bl left bf held (pieces_of t) d → IsAhead (later_of next.stop c') bl left' bf held' (map piece_of b.pictures ++ pieces_of next) m) → IsUnderWay b ss next c' m
    → ((low : ℕ) → (t.stop ≡ More → low < c.place) → next.stop ≡ More → low < c'.place) → WerePut (map piece_of b.pictures ++ pieces_of next) m held' n held''
    → GoesFrom t c left held d next.stop c' left' held'' n
chain_ends t c left held d b ss next c' left' held' held'' m n ahead u rises were = record {
  ahead = λ bl bf so.
      (were.puts) (later_of next.stop c') bl left' bf []
      (subst (λ (ps : List Piece). IsAhead (later_of next.stop c') bl left' bf held' ps m) (sym (append-nil (map piece_of b.pictures ++ pieces_of next))) (ahead bl bf so));
  few = (were.counted) (end_by next.stop c'.place) u.order;
  most = u.most;
  set = u.set;
  rises = rises;
  going = were.going;
  before = were.before;
}

pub chain_stops : (failed failed' : Type 0) (t : Taken) (c : Cutting) (left held : Option (List ℕ)) (d : Decoding) (ps : List Piece) (next : Taken) (c' : Cutting) (left' held' held'' : Option (List ℕ)) (m : Decoding) (e : DecodeError) → (failed → failed')
    → ((bl bf : Option (List ℕ)) → IsAhead (later_of t.stop c) bl left bf held (pieces_of t) d → IsAhead (later_of next.stop c') bl left' bf held' ps m) → StopsBy failed ps m held' held'' e → WrongFrom failed' t c left held d left' held'' e
chain_stops failed failed' t c left held d ps next c' left' held' held'' m e weaker ahead stops = λ bl bf so.
    fails_weaker failed failed' bl left' bf held'' e weaker
    (stops (later_of next.stop c') bl left' bf [] (subst (λ (xs : List Piece). IsAhead (later_of next.stop c') bl left' bf held' xs m) (sym (append-nil ps)) (ahead bl bf so)))
