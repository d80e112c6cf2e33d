-- Places of a line that are passed over.
use Rattle.std.proofs.Common.{◌≡◌, ℕ, ◌-◌, ◌*◌, ◌<◌, ◌≤◌, sym, arith}
use Rattle.m2v_search.specs.declared.spot.Spot.{Spot}
use Rattle.m2v_search.specs.Least.{least}
use Rattle.m2v_search.proofs.Cuts.{least_kept}
use Rattle.m2v_search.proofs.Products.{All_line}
use Rattle.m2v_search.proofs.Scans.{line_spots, line_part}

-- those that cost no less change nothing
pub line_passed : (cost : Spot → ℕ) (b now : Spot) (unit y first x end : ℕ) → first ≤ x → x ≤ end
    → now ≡ least cost b (line_spots unit y first (x - first))
    → ((k : ℕ) → x ≤ k → k < end → cost now ≤ cost (record { y = unit * y; x = unit * k }))
    → now ≡ least cost b (line_spots unit y first (end - first))
line_passed cost b now unit y first x end le more so each =
    let spot : ℕ → Spot = λ x. record { y = unit * y; x = unit * x } in
    line_part cost b now now unit y first x end le more so
    (sym (least_kept cost now (line_spots unit y x (end - x))
    (All_line (λ t. cost now ≤ cost t) spot x (end - x) (λ k from to. each k from (omega arith)))))
