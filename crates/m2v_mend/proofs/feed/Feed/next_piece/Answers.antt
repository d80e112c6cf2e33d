use Rattle.std.proofs.Common.{subst}
use Rattle.m2v_decode.specs.m2v_dec_piece.Cutting.{Cutting}
use Rattle.m2v_mend.specs.Feeding.{Fed, IsOnward}
use Rattle.m2v_mend.proofs.FedLaws.{fed_as, own_as, onward_as}
use Rattle.m2v_mend.proofs.feed.Feed.next_piece.Goals as goal

pub returns-clause-ok : goal.returns-clause-ok
returns-clause-ok g c =
    subst (λ (old : Cutting). Fed old (g.S.Source.left c.args.input.now) c.next_cut.new.self (g.S.Source.left c.next_cut.new.input) c.in_ok-bare.bare) c.self.view_is
    (fed_as c.self.inside.cutter c.next_cut.new.self (g.S.Source.left c.args.input.now) (g.S.Source.left c.next_cut.new.input) c.in_ok-piece.piece c.in_ok-bare.bare c.in_ok-piece.ensures.ok c.in_ok-bare.ensures.bare c.in_ok-bare.ensures.zeros)

pub returns-clause-own : goal.returns-clause-own
returns-clause-own g c = own_as c.in_ok-piece.piece c.in_ok-bare.bare c.in_ok-bare.ensures.bare

pub returns-clause-onward : goal.returns-clause-onward
returns-clause-onward g c =
    subst (λ (old : Cutting). IsOnward c.in_ok-bare.bare old c.next_cut.new.self) c.self.view_is
    (onward_as c.in_ok-piece.piece c.in_ok-bare.bare c.self.inside.cutter c.next_cut.new.self c.in_ok-bare.ensures.bare c.in_ok-piece.ensures.sound c.in_ok-piece.ensures.onward c.in_ok-piece.ensures.begun)
