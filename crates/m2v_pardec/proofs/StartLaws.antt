-- What was taken behind a decoder that is up to date, and the batches that it begins.
use Rattle.std.proofs.Common.{◌≡◌, ℕ, ◌<◌, ◌≤◌, Bool, false, List, [], ◌∷◌, Option, None, refl, sym, ap, subst, ◌∙◌}
use Rattle.std.specs.Prelude.{IfSome, is_some}
use Rattle.m2v_port.specs.Port.{Rose}
use Rattle.m2v_plane.specs.declared.dims.Dims.{Dims}
use Rattle.m2v_plane.specs.Samples.{Samples}
use Rattle.m2v_model.specs.declared.state.State.{State}
use Rattle.m2v_model.specs.Pieces.{most_input}
use Rattle.m2v_model.specs.Pictures.{Store}
use Rattle.m2v_dec_piece.specs.declared.answer.Piece.{Piece}
use Rattle.m2v_dec_piece.specs.declared.answer.DecodeError.{DecodeError}
use Rattle.m2v_dec_piece.specs.Cutting.{Cutting}
use Rattle.m2v_dec_batch.specs.m2v_dec_picture.declared.gallery.FramesAtHand.{FramesAtHand}
use Rattle.m2v_dec_batch.specs.Filled.{with_frames, AreThere, HaveDims}
use Rattle.m2v_pardec.specs.Behind.{Tracks}
use Rattle.m2v_pardec.proofs.NextFrames.{tracks_first}
use Rattle.m2v_decode.specs.Decoding.{Decoding}
use Rattle.m2v_pardec.specs.declared.taking.Stop.{Stop}
use Rattle.m2v_pardec.specs.declared.taking.Stop.TheVariants.{More, End, Error}
use Rattle.m2v_pardec.specs.declared.taking.Before.{Before}
use Rattle.m2v_pardec.specs.declared.taking.Taken.{Taken}
use Rattle.m2v_pardec.specs.Ahead.{AreInOrder, Takes}
use Rattle.m2v_pardec.specs.Taken.{pieces_of, end_by, IsSet, TellsOn, TakenBehind, ReadFailed, ReadOn}
use Rattle.m2v_pardec.specs.Put.{StandsBy, GoesOn, GoesWrong}
use Rattle.m2v_pardec.specs.Chain.{AreWaiting, GoesFrom, WrongFrom}
use Rattle.m2v_pardec.proofs.GoesLaws.{after_taken}
use Rattle.m2v_pardec.proofs.PutLaws.{order_lower}
use Rattle.m2v_pardec.proofs.RestLaws.{set_taken}

-- ---- what waits

-- pieces that were taken behind what a decoder knows wait for it
pub taken_waits : (h : Before) (t : Taken) (c c' : Cutting) (left left' : Option (List ℕ)) (d : Decoding) → TakenBehind h t → h.state ≡ d.state → d.failed ≡ false → d.ended ≡ false → d.pictures ≤ c.place → Takes c left (pieces_of t) t.stop c' left'
    → AreInOrder c.place (pieces_of t) (end_by t.stop c'.place) → c'.place ≤ most_input → AreWaiting t c' d
taken_waits h t c c' left left' d b state going before few takes order most = record {
  going = going;
  before = before;
  order = order_lower (pieces_of t) c.place d.pictures (end_by t.stop c'.place) few order;
  most = most;
  set = set_taken c left (pieces_of t) t.stop c' left' takes;
  told = subst (λ (s : State). TellsOn s t.pictures.pictures t.after.items t.state) state b.told;
  between = b.between;
}

-- ---- frames

-- the frames at hand are those that the pictures were taken for
pub taken_there : (h : Before) (t : Taken) (f : FramesAtHand) → TakenBehind h t → h.there.older ≡ is_some f.older → h.there.newer ≡ is_some f.newer → h.there.first ≡ is_some f.waiting → AreThere f t.pictures
taken_there h t f b older newer first = record {
  older = sym (b.older ∙ older);
  newer = sym (b.newer ∙ newer);
  waiting = sym (b.waiting ∙ first);
}

sized : (d k : Dims) (x : Option Samples) → k ≡ d → IfSome x (λ f. f.dims ≡ d) → IfSome x (λ f. f.dims ≡ k)
sized d k x e s = subst (λ (n : Dims). IfSome x (λ f. f.dims ≡ n)) (sym e) s

pub taken_sized : (h : Before) (t : Taken) (f : FramesAtHand) → TakenBehind h t → IfSome f.older (λ x. x.dims ≡ h.dims) → IfSome f.newer (λ x. x.dims ≡ h.dims) → IfSome f.waiting (λ x. x.dims ≡ h.dims) → HaveDims t.pictures.dims f
taken_sized h t f b older newer waiting = record {
  older = sized h.dims t.pictures.dims f.older b.dims older;
  newer = sized h.dims t.pictures.dims f.newer b.dims newer;
  waiting = sized h.dims t.pictures.dims f.waiting b.dims waiting;
}

pub taken_tracks : (t : Taken) (f : FramesAtHand) (store : Store) → store.older ≡ f.older → store.newer ≡ f.newer → store.current ≡ f.waiting → Tracks (with_frames t.pictures f) 0 store
taken_tracks t f store older newer waiting = tracks_first (with_frames t.pictures f) store older newer (λ second. waiting)

none_there : (x : Option Samples) (b : Bool) → x ≡ None → b ≡ false → b ≡ is_some x
none_there x b e f = f ∙ sym (ap (λ (y : Option Samples). is_some y) e)

none_sized : (x : Option Samples) (d : Dims) → x ≡ None → IfSome x (λ f. f.dims ≡ d)
none_sized x d e = subst (λ (y : Option Samples). IfSome y (λ f. f.dims ≡ d)) (sym e) tt

-- behind nothing no frame is
pub first_there : (h : Before) (t : Taken) (f : FramesAtHand) → TakenBehind h t → (h.there.older ≡ false) × (h.there.newer ≡ false) × (h.there.first ≡ false) → f.older ≡ None → f.newer ≡ None → f.waiting ≡ None → AreThere f t.pictures
first_there h t f b none o n w = taken_there h t f b (none_there f.older h.there.older o none.0) (none_there f.newer h.there.newer n none.1) (none_there f.waiting h.there.first w none.2)

pub first_sized : (d : Dims) (f : FramesAtHand) → f.older ≡ None → f.newer ≡ None → f.waiting ≡ None → HaveDims d f
first_sized d f o n w = record { older = none_sized f.older d o; newer = none_sized f.newer d n; waiting = none_sized f.waiting d w }

-- ---- batch after batch

stands_by : (stop : Stop) (c c' : Cutting) (d : Decoding) → IsSet stop c' → (stop ≡ More → c.place < c'.place) → c'.place ≤ most_input → d.pictures ≤ end_by stop c'.place → StandsBy stop c c' d
stands_by More c c' d set rises most few = (set, rises refl, most, few)
stands_by End c c' d set rises most few = (set, most)
stands_by (Error e) c c' d set rises most few = set

-- what was taken is decoded, and what comes behind it
pub chain_goes : (c c1 c2 : Cutting) (l l1 l2 h h' : Option (List ℕ)) (d n : Decoding) (t : Taken) (stop : Stop) → Takes c l (pieces_of t) t.stop c1 l1 → (t.stop ≡ More → c.place < c1.place) → GoesFrom t c1 l1 h d stop c2 l2 h' n → GoesOn c l h d stop c2 l2 h' n
chain_goes c c1 c2 l l1 l2 h h' d n t stop takes rises g = record {
  ahead = λ bl b so. g.ahead bl b (after_taken c l [] (pieces_of t) t.stop c1 l1 bl b h d takes so);
  stands = stands_by stop c c2 n g.set (g.rises c.place rises) g.most g.few;
  going = g.going;
  before = g.before;
}

pub chain_wrong : (failed : Type 0) (c c1 : Cutting) (l l1 l2 h h' : Option (List ℕ)) (d : Decoding) (t : Taken) (e : DecodeError) → Takes c l (pieces_of t) t.stop c1 l1 → WrongFrom failed t c1 l1 h d l2 h' e → GoesWrong failed c l h d l2 h' e
chain_wrong failed c c1 l l1 l2 h h' d t e takes wrong = λ bl b so. wrong bl b (after_taken c l [] (pieces_of t) t.stop c1 l1 bl b h d takes so)

-- a read that failed was that of what was taken, or one behind it
pub read_behind : (a b : Stop) (first mid last : ℕ) → first ≤ mid → ReadFailed a (Rose first mid) → ReadOn a b mid last → ReadFailed b (Rose first last)
read_behind a b first mid last le failed on = on.since first le failed

-- ---- the first piece

pub first_takes : (c c1 : Cutting) (l l1 : Option (List ℕ)) (p : Piece) (t : Taken) → Takes c l (p ∷ []) More c1 l1 → pieces_of t ≡ p ∷ [] → t.stop ≡ More → Takes c l (pieces_of t) t.stop c1 l1
first_takes c c1 l l1 p t takes pieces more =
    subst (λ (s : Stop). Takes c l (pieces_of t) s c1 l1) (sym more) (subst (λ (ps : List Piece). Takes c l ps More c1 l1) (sym pieces) takes)

pub first_order : (c c1 : Cutting) (p : Piece) (t : Taken) → AreInOrder c.place (p ∷ []) c1.place → pieces_of t ≡ p ∷ [] → t.stop ≡ More → AreInOrder c.place (pieces_of t) (end_by t.stop c1.place)
first_order c c1 p t order pieces more =
    subst (λ (s : Stop). AreInOrder c.place (pieces_of t) (end_by s c1.place)) (sym more) (subst (λ (ps : List Piece). AreInOrder c.place ps c1.place) (sym pieces) order)

pub first_read : (a : Stop) (first now : ℕ) → a ≡ More → ReadFailed a (Rose first now)
first_read a first now e = subst (λ (s : Stop). ReadFailed s (Rose first now)) (sym e) tt
