-- What is left behind pictures that became a book, and the pieces that are taken behind it.
use Rattle.std.proofs.Common.{◌≡◌, ℕ, ◌+◌, ◌*◌, ◌^◌, ◌<◌, ◌≤◌, Bool, true, false, List, [], ◌∷◌, ◌++◌, length, Option, None, Result, Ok, Err, refl, sym, ap, subst, ◌∙◌, arith}
use Rattle.std.specs.Prelude.{IfOk, nat_eq, if◌then◌else◌, option_to_list}
use Rattle.std.proofs.lemmas.List.{append-nil}
use Rattle.m2v_port.specs.Port.{Rose}
use Rattle.m2v_port.proofs.Runs.{rose_since}
use Rattle.m2v_dec_piece.specs.declared.answer.Piece.{Piece}
use Rattle.m2v_dec_piece.specs.Cutting.{Cutting}
use Rattle.m2v_decode.specs.Decoding.{Decoding}
use Rattle.m2v_pardec.specs.declared.taking.Stop.{Stop}
use Rattle.m2v_pardec.specs.declared.taking.Stop.TheVariants.{More, End, Error}
use Rattle.m2v_pardec.specs.declared.taking.Taken.{Taken}
use Rattle.m2v_pardec.specs.declared.taking.Rest.{Rest}
use Rattle.m2v_pardec.specs.Ahead.{AreInOrder, behind, later_of, IsAhead, Takes, WereTaken}
use Rattle.m2v_pardec.specs.Chain.{TakingFails}
use Rattle.m2v_pardec.specs.Taken.{pieces_of, end_by, IsSet, batches_left, TakesMore, ReadFailed, ReadOn}
use Rattle.m2v_pardec.proofs.AheadLaws.{ahead_all, ahead_unmade}
use Rattle.m2v_pardec.proofs.PutLaws.{order_lower}
use Rattle.m2v_pardec.proofs.GoesLaws.{after_taken, order_strict}

-- ---- pieces in order

-- pieces in order, and others behind them
order_both : (ps qs : List Piece) (low mid high : ℕ) → AreInOrder low ps mid → AreInOrder mid qs high → AreInOrder low (ps ++ qs) high
order_both [] qs low mid high first next = order_lower qs mid low high first next
order_both (p ∷ ps) qs low mid high first next = (first.0, first.1, order_both ps qs (p.place + p.length) mid high first.2 next)

-- ---- no piece is left over, and others may follow

-- the pieces that wait are all
none_over : (ps : List Piece) (other : Option Piece) → other ≡ None → ps ++ option_to_list other ≡ ps
none_over ps other none = ap (λ (o : Option Piece). ps ++ option_to_list o) none ∙ append-nil ps

-- what comes behind them is what the cutter has not handed out
rest_ahead : (r : Rest) (c : Cutting) (bl l b h : Option (List ℕ)) (ps : List Piece) (d : Decoding) → r.other ≡ None → r.stop ≡ More → IsAhead (later_of r.stop c) bl l b h (ps ++ option_to_list r.other) d → IsAhead (behind c) bl l b h ps d
rest_ahead r c bl l b h ps d none more so =
    subst (λ (s : Stop). IsAhead (later_of s c) bl l b h ps d) more (subst (λ (xs : List Piece). IsAhead (later_of r.stop c) bl l b h xs d) (none_over ps r.other none) so)

-- they end where the cutter stands
rest_order : (r : Rest) (c : Cutting) (low : ℕ) (ps : List Piece) → r.other ≡ None → r.stop ≡ More → AreInOrder low (ps ++ option_to_list r.other) (end_by r.stop c.place) → AreInOrder low ps c.place
rest_order r c low ps none more so =
    subst (λ (s : Stop). AreInOrder low ps (end_by s c.place)) more (subst (λ (xs : List Piece). AreInOrder low xs (end_by r.stop c.place)) (none_over ps r.other none) so)

-- ---- pieces that were taken

-- a cutter stands where no more were taken
pub set_taken : (c : Cutting) (l : Option (List ℕ)) (ps : List Piece) (stop : Stop) (c' : Cutting) (l' : Option (List ℕ)) → Takes c l ps stop c' l' → IsSet stop c'
set_taken c l ps More c' l' t = t.1
set_taken c l ps End c' l' t = t.4
set_taken c l ps (Error e) c' l' t = t.4

-- the cutter's place rises where others may follow
pub place_rises : (stop : Stop) (ps : List Piece) (before now : ℕ) → (stop ≡ More → 0 < length ps) → AreInOrder before ps (end_by stop now) → stop ≡ More → before < now
place_rises stop ps before now some order more = subst (λ (s : Stop). before < end_by s now) more (order_strict ps before (end_by stop now) (some more) order)

-- a batch whose rows are decoded counts 1
bit_most : (b : Bool) → (if b then 0 else 1) ≤ 1
bit_most true = omega arith
bit_most false = omega arith

-- less is left, with the batch whose rows are decoded then
fewer_left : (stop : Stop) (c c' : Cutting) (works : ℕ) → works ≤ 1 → c.place ≤ 2 ^ 36 → c'.place ≤ 2 ^ 36 → (stop ≡ More → c.place < c'.place) → 2 * batches_left stop c' + works < 2 * batches_left More c + 1
fewer_left More c c' works one few most rises = let on = rises refl in omega (arith, one, few, most, on)
fewer_left End c c' works one few most rises = omega (arith, one, few)
fewer_left (Error e) c c' works one few most rises = omega (arith, one, few)

-- ---- what a call answers

-- the pieces behind what was taken were taken
pub takes_more : (r : Rest) (c : Cutting) (l : Option (List ℕ)) (c' : Cutting) (l' : Option (List ℕ)) (t : Taken) → r.other ≡ None → r.stop ≡ More → c.place ≤ 2 ^ 36 → c'.place ≤ 2 ^ 36 → Takes c l (pieces_of t) t.stop c' l'
    → AreInOrder c.place (pieces_of t) (end_by t.stop c'.place) → (t.stop ≡ More → 0 < length (pieces_of t)) → TakesMore r c l c' l' t
takes_more r c l c' l' t none more few most taken order some =
    let rises = place_rises t.stop (pieces_of t) c.place c'.place some order in
    record {
      ahead = λ bl b h ps d so. after_taken c l ps (pieces_of t) t.stop c' l' bl b h d taken (rest_ahead r c bl l b h ps d none more so);
      order = λ low ps so. order_both ps (pieces_of t) low c.place (end_by t.stop c'.place) (rest_order r c low ps none more so) order;
      set = set_taken c l (pieces_of t) t.stop c' l' taken;
      most = most;
      rises = λ low below on. let before = below more in let now = rises on in omega (arith, before, now);
      falls =
          subst (λ (s : Stop). 2 * batches_left t.stop c' + (if nat_eq (length t.pictures.pictures) 0 then 0 else 1) < 2 * batches_left s c + 1) (sym more)
          (fewer_left t.stop c c' _ (bit_most (nat_eq (length t.pictures.pictures) 0)) few most rises);
    }

-- the same where a result has them
pub if_takes_more : {E : Type 0} (r : Rest) (c : Cutting) (l : Option (List ℕ)) (c' : Cutting) (l' : Option (List ℕ)) (result : Result Taken E) → r.other ≡ None → r.stop ≡ More → c.place ≤ 2 ^ 36 → c'.place ≤ 2 ^ 36
    → IfOk result (λ t. Takes c l (pieces_of t) t.stop c' l') → IfOk result (λ t. AreInOrder c.place (pieces_of t) (end_by t.stop c'.place)) → IfOk result (λ t. t.stop ≡ More → 0 < length (pieces_of t))
    → IfOk result (TakesMore r c l c' l')
if_takes_more r c l c' l' (Ok t) none more few most taken order some = takes_more r c l c' l' t none more few most taken order some
if_takes_more r c l c' l' (Err e) none more few most taken order some = tt

-- memory ran out while pieces were taken
pub taking_fails : (r : Rest) (c : Cutting) (l : Option (List ℕ)) (c' : Cutting) (l' : Option (List ℕ)) → r.other ≡ None → r.stop ≡ More → WereTaken c l c' l' → TakingFails r c l l'
taking_fails r c l c' l' none more gone = record {
  fails = λ bl b h ps d so.
      ahead_unmade ⊥ (behind c') bl l' b h (ps ++ gone.0) d (ahead_all bl l b h c d ps gone.0 c' l' (rest_ahead r c bl l b h ps d none more so) gone.1);
}

-- ---- reads

failed_since : (s : Stop) (start before now : ℕ) → start ≤ before → ReadFailed s (Rose before now) → ReadFailed s (Rose start now)
failed_since More start before now le f = f
failed_since End start before now le f = f
failed_since (Error e) start before now le f = λ is. rose_since le (f is)

-- one was made, and told of
pub new_read : (old new : Stop) (before now : ℕ) → ReadFailed new (Rose before now) → ReadOn old new before now
new_read old new before now f = record { since = λ start le g. failed_since new start before now le f }
