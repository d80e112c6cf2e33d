-- What was read in two parts.
use Rattle.std.proofs.Common.{◌≡◌, ℕ, ◌+◌, ◌<◌, ◌≤◌, List, [], ◌∷◌, ◌++◌, length, Option, Some, None, refl, sym, ap, subst, ◌∙◌, append_assoc, arith}
use Rattle.std.proofs.lemmas.List.{append-nil, length-append}
use Rattle.m2v_port.specs.Ends.{Change, change}
use Rattle.m2v_port.specs.Port.{Moves, Grows, GrowsByPrefix}
use Rattle.m2v_port.proofs.Runs.{moves_on}
use Rattle.m2v_model.specs.Pieces.{pieces, limit}
use Rattle.m2v_model.specs.ByPieces.{end_of}
use Rattle.m2v_model.proofs.PieceLaws.{end_of-append}
use Rattle.m2v_decode.specs.m2v_dec_piece.Cutting.{Cutting, left_of}
use Rattle.m2v_decode.specs.m2v_dec_piece.Cutting.{start_of as start_of_rest}
use Rattle.m2v_decode.specs.Answers.{start_of, AllFit}
use Rattle.m2v_decode.proofs.Going.{moved_some}
use Rattle.m2v_cut.specs.Progress.{Reached, Progress, Led, Onward, ReadOn, bytes_of, all_bytes, all_groups, all_lengths}
use Rattle.m2v_cut.proofs.Onwards.{keeps_on}

-- ---- lists of pieces

pub fit_on : (ps qs : List (List ℕ)) (at : ℕ) → AllFit at ps → AllFit (end_of at ps) qs → AllFit at (ps ++ qs)
unfolding end_of
fit_on [] qs at a b = b
fit_on (p ∷ ps) qs at a b = (a.0, fit_on ps qs (at + length p) a.1 b)

pub groups_on : (ps qs : List (List ℕ)) → all_groups (ps ++ qs) ≡ all_groups ps + all_groups qs
groups_on [] qs = omega arith
groups_on (p ∷ ps) qs = omega (arith, groups_on ps qs)

pub bytes_on : (ps qs : List (List ℕ)) → all_bytes (ps ++ qs) ≡ all_bytes ps ++ all_bytes qs
bytes_on [] qs = refl
bytes_on (p ∷ ps) qs = ap (λ (t : List ℕ). bytes_of p ++ t) (bytes_on ps qs) ∙ sym (append_assoc (bytes_of p) (all_bytes ps) (all_bytes qs))

pub led_on : (start mid end : ℕ) (all left others a b : List (List ℕ)) → Led start all a mid left → Led mid left b end others → Led start all (a ++ b) end others
led_on start mid end all left others a b x y = record {
  are = x.are ∙ ap (λ (ps : List (List ℕ)). a ++ ps) y.are ∙ sym (append_assoc a b others);
  fit = fit_on a b start x.fit (subst (λ (k : ℕ). AllFit k b) x.place y.fit);
  place = y.place ∙ ap (λ (k : ℕ). end_of k b) x.place ∙ sym (end_of-append a b start);
}

-- ---- two parts

pub onward_on : (old mid new : Option (List ℕ)) (c0 c c' : Cutting) (a b : List (List ℕ)) → Onward old mid c0 c a → Onward mid new c c' b → Onward old new c0 c' (a ++ b)
onward_on old mid new c0 c c' a b x y = record {
  bytes = x.bytes ++ y.bytes;
  moved = moves_on x.moved y.moved;
  keeps = keeps_on old mid new c0 c c' y.bytes x.keeps y.moved y.keeps;
  told = λ rest e.
      let l = x.told (y.bytes ++ rest) (moved_some mid new y.bytes rest y.moved e) in
      let m = y.told rest e in
      subst (λ (t : List ℕ). Led (start_of_rest c0 t) (left_of c0 t) (a ++ b) (start_of_rest c' rest) (left_of c' rest)) (sym (append_assoc x.bytes y.bytes rest))
      (led_on _ _ _ _ _ _ a b l m);
  at = y.at;
}

-- pieces behind others, and then bytes of which nothing came
pub read_on : (old mid new : Option (List ℕ)) (c0 c : Cutting) (a b : List (List ℕ)) → Onward old mid c0 c a → ReadOn mid new c b → ReadOn old new c0 (a ++ b)
read_on old mid new c0 c a b x y = record {
  between = y.between;
  then_is = y.then_is;
  onward = onward_on old mid y.between c0 c y.then_is a b x y.onward;
  bytes = y.bytes;
  moved = y.moved;
}

-- the first pieces of a text, and pieces behind them
pub reached_on : (taken more start end : ℕ) (text : List ℕ) (left others first read : List (List ℕ)) → Reached taken text start left first → Led start left read end others → end ≤ more → Reached more text end others (first ++ read)
reached_on taken more start end text left others first read r l within =
    let x = led_on (start_of text) start end (pieces text) left others first read (record { are = r.are; fit = r.fit; place = r.place }) l in
    record { are = x.are; fit = x.fit; place = x.place; within = λ some. within }

module _ {S : Type 0} (left : S → Option (List ℕ)) (input_faults : S → ℕ) where
  abbrev input : S → S → Change
  input = change left input_faults

  pub progress_on : (i0 i1 i2 : S) (c c' : Cutting) (first read : List (List ℕ)) → Progress (input i0 i1) c first → Onward (left i1) (left i2) c c' read → Progress (input i0 i2) c' (first ++ read)
  progress_on i0 i1 i2 c c' first read so on =
      let taken : (rest : List ℕ) → left i2 ≡ Some rest → c'.place + length c'.unread ≤ length (so.bytes ++ on.bytes) = λ rest e.
      let mid = moved_some (left i1) (left i2) on.bytes rest on.moved e in
      omega (arith, on.keeps (on.bytes ++ rest) rest mid e, so.taken (on.bytes ++ rest) mid, length-append on.bytes rest, length-append so.bytes on.bytes) in
      record {
        bytes = so.bytes ++ on.bytes;
        moved = moves_on so.moved on.moved;
        taken = taken;
        told = λ rest e.
            let mid = moved_some (left i1) (left i2) on.bytes rest on.moved e in
            let l = on.told rest e in
            let within = taken rest e in
            let at = on.at rest e in
            subst (λ (t : List ℕ). Reached (length (so.bytes ++ on.bytes)) t (start_of_rest c' rest) (left_of c' rest) (first ++ read)) (sym (append_assoc so.bytes on.bytes rest))
            (reached_on (length so.bytes) (length (so.bytes ++ on.bytes)) (start_of_rest c (on.bytes ++ rest)) (start_of_rest c' rest) (so.bytes ++ (on.bytes ++ rest)) (left_of c (on.bytes ++ rest)) (left_of c' rest) first read
            (so.told (on.bytes ++ rest) mid) l (omega (arith, within, at)));
      }
