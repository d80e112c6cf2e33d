-- Pictures taken ahead, one after another.
use Rattle.std.proofs.Common.{◌≡◌, ℕ, suc, ◌+◌, ◌≤◌, Bool, true, false, List, [], ◌∷◌, ◌++◌, length, map, drop, Option, Some, None, refl, sym, ap, subst, ◌∙◌, append_assoc, arith}
use Rattle.std.specs.Prelude.{slice_get, Ok, is_some, option_to_list}
use Rattle.std.proofs.lemmas.List.{append-nil, drop_more, map-append}
use Rattle.std.proofs.lemmas.Option.{slice_get_within, get_or_from_slice_get}
use Rattle.m2v_model.specs.Pieces.{most_input}
use Rattle.m2v_model.specs.declared.state.State.{State}
use Rattle.m2v_dec_piece.specs.declared.answer.Piece.{Piece}
use Rattle.m2v_dec_batch.specs.m2v_dec_rows.declared.opened.Opened.{Opened}
use Rattle.m2v_dec_batch.specs.m2v_dec_rows.Headers.{IsBetween, TellsHeaders, Front}
use Rattle.m2v_dec_batch.specs.declared.picture.BatchPicture.{BatchPicture}
use Rattle.m2v_dec_batch.specs.Batches.{Batch, IsBatch}
use Rattle.m2v_dec_batch.specs.Filled.{batch_of}
use Rattle.m2v_dec_batch.proofs.Exchanging.{any_there, batch_none}
use Rattle.m2v_pardec.specs.declared.taking.Stop.{Stop}
use Rattle.m2v_pardec.specs.declared.taking.Stop.TheVariants.{More, End, Error}
use Rattle.m2v_pardec.specs.declared.taking.Before.{Before}
use Rattle.m2v_pardec.specs.declared.taking.Taken.{Taken}
use Rattle.m2v_pardec.specs.Taken.{piece_of, pieces_of, IsKnown, IsTold, AreTold, AddedTo, TellsOn, TakenBehind, end_by}

-- ---- headers

-- that slices stay unread makes no difference to reading them so
abbrev front_same : {st : State} {p : Piece} (b : Bool) → Front st p → Front (record st { headers_only = b }) p
front_same b f = record { parts = f.parts; fault = f.fault; read = f.read }

-- what the headers of a picture say is said so too
told_headers : (st : State) (b : Bool) (p : Piece) (o : Opened) (after : State) → TellsHeaders st p (Ok (Some o)) after → TellsHeaders (record st { headers_only = b }) p (Ok (Some o)) after
told_headers st b p o after h = (front_same b h.0, h.1, h.2)

-- the same of a picture
pub told_same : (st : State) (b : Bool) (x : BatchPicture) (after : State) → IsTold st x after → IsTold (record st { headers_only = b }) x after
told_same st b x after t = record {
  told = told_headers st b x.piece x.opened after t.told;
  opened = t.opened;
  one = t.one;
  read = t.read;
  whole = t.whole;
}

-- and of pictures one behind another
pub are_told_same : (st : State) (b : Bool) (xs : List BatchPicture) (ss : List State) → AreTold st xs ss → AreTold (record st { headers_only = b }) xs ss
are_told_same st b [] [] t = t
are_told_same st b [] (a ∷ ss) t = absurd t
are_told_same st b (x ∷ xs) [] t = absurd t
are_told_same st b (x ∷ xs) (a ∷ ss) t = (told_same st b x a t.0, t.1)

-- ---- the picture at a place

-- there is one state for each picture
pub told_long : (st : State) (xs : List BatchPicture) (ss : List State) → AreTold st xs ss → length ss ≡ length xs
told_long st [] [] t = refl
told_long st [] (a ∷ ss) t = absurd t
told_long st (x ∷ xs) [] t = absurd t
told_long st (x ∷ xs) (a ∷ ss) t = ap suc (told_long a xs ss t.1)

-- what is left from a place on begins with what stands there
pub drop_at : {X : Type 0} (xs : List X) (n : ℕ) (x : X) → slice_get xs n ≡ Some x → drop n xs ≡ x ∷ drop (n + 1) xs
drop_at {X} xs n x e =
    drop_more xs n x (slice_get_within xs n x e) ∙ ap (λ (y : X). y ∷ drop (n + 1) xs) (get_or_from_slice_get xs n x x e)

-- ---- pieces

-- all are pictures
pub pieces_alone : (xs : List BatchPicture) (other : Option Piece) → other ≡ None → map piece_of xs ++ option_to_list other ≡ map piece_of xs
pieces_alone xs other e = ap (λ (o : Option Piece). map piece_of xs ++ option_to_list o) e ∙ append-nil (map piece_of xs)

-- one picture more
pub pieces_more : (old new : Taken) (p : Piece) → AddedTo old p true new → map piece_of new.pictures.pictures ≡ map piece_of old.pictures.pictures ++ p ∷ []
pieces_more old new p a =
    ap (λ (x : Batch). map piece_of x.pictures) a.2 ∙ map-append piece_of old.pictures.pictures (record { piece = p; opened = a.0 } ∷ [])

-- another one is behind them
pub pieces_with : (old new : Taken) (p : Piece) → AddedTo old p false new → pieces_of new ≡ map piece_of old.pictures.pictures ++ p ∷ []
pieces_with old new p a =
    ap (λ (x : Batch). map piece_of x.pictures ++ option_to_list new.other) a.0 ∙ ap (λ (o : Option Piece). map piece_of old.pictures.pictures ++ option_to_list o) a.3

-- they end within an input's limit
pub end_by_most : (s : Stop) (place : ℕ) → place ≤ most_input → end_by s place ≤ most_input
end_by_most More place h = h
end_by_most End place h = h
end_by_most (Error e) place h = omega arith

-- ---- behind what is known

-- the headers of no picture are told
tells_none : (st last : State) (xs : List BatchPicture) (ss : List State) → xs ≡ [] → ss ≡ [] → last ≡ st → TellsOn st xs ss last
tells_none st last xs ss none after same = λ ys zs told.
    subst (λ (l : List BatchPicture). AreTold st (l ++ ys) (ss ++ zs)) (sym none)
    (subst (λ (l : List State). AreTold st ys (l ++ zs)) (sym after) (subst (λ (s : State). AreTold s ys zs) same told))

-- and of one picture more
tells_more : (st : State) (xs : List BatchPicture) (ss : List State) (last : State) (x : BatchPicture) (after : State) → TellsOn st xs ss last → IsTold last x after → TellsOn st (xs ++ x ∷ []) (ss ++ after ∷ []) after
tells_more st xs ss last x after on t = λ ys zs told.
    subst (λ (l : List BatchPicture). AreTold st l ((ss ++ after ∷ []) ++ zs)) (sym (append_assoc xs (x ∷ []) ys))
    (subst (λ (l : List State). AreTold st (xs ++ x ∷ ys) l) (sym (append_assoc ss (after ∷ []) zs)) (on (x ∷ ys) (after ∷ zs) (t, told)))

-- no picture was taken yet
pub no_pictures : (h : Before) (t : Taken) → t.pictures ≡ batch_of h.dims [] h.there → t.pictures.pictures ≡ []
no_pictures h t pictures = ap (λ (b : Batch). b.pictures) pictures

-- nothing was taken yet
pub behind_none : (h : Before) (t : Taken) → IsKnown h → t.pictures ≡ batch_of h.dims [] h.there → t.after.items ≡ [] → t.state ≡ h.state → TakenBehind h t
behind_none h t known pictures after state = record {
  batch = subst IsBatch (sym pictures) (batch_none h.dims h.there known.size);
  dims = ap (λ (b : Batch). b.dims) pictures;
  older = ap (λ (b : Batch). is_some b.older) pictures ∙ any_there h.dims h.there.older;
  newer = ap (λ (b : Batch). is_some b.newer) pictures ∙ any_there h.dims h.there.newer;
  waiting = ap (λ (b : Batch). is_some b.waiting) pictures ∙ any_there h.dims h.there.first;
  told = tells_none h.state t.state t.pictures.pictures t.after.items (no_pictures h t pictures) after state;
  between = subst IsBetween (sym state) known.between;
}

-- a picture more was taken
pub behind_more : (h : Before) (old new : Taken) (p : Piece) → TakenBehind h old → AddedTo old p true new → TakenBehind h new
behind_more h old new p so a = record {
  batch = subst IsBatch (sym a.2) (a.1).batch;
  dims = ap (λ (b : Batch). b.dims) a.2 ∙ so.dims;
  older = ap (λ (b : Batch). is_some b.older) a.2 ∙ so.older;
  newer = ap (λ (b : Batch). is_some b.newer) a.2 ∙ so.newer;
  waiting = ap (λ (b : Batch). is_some b.waiting) a.2 ∙ so.waiting;
  told =
      subst (λ (b : Batch). TellsOn h.state b.pictures new.after.items new.state) (sym a.2)
      (subst (λ (ss : List State). TellsOn h.state (old.pictures.pictures ++ record { piece = p; opened = a.0 } ∷ []) ss new.state) (sym a.3)
      (tells_more h.state old.pictures.pictures old.after.items old.state (record { piece = p; opened = a.0 }) new.state so.told (a.1).told));
  between = (a.1).between;
}
