use Rattle.std.proofs.Common.{refl, arith}
use Rattle.m2v_board.proofs.Events.{opening_shown, claim_shown, claim_answered, raise_shown, lent_shown, split_shown, join_shown}
use Rattle.m2v_board.proofs.laws.law_steps.Goals as goal

pub returns-clause-make : goal.returns-clause-make
returns-clause-make g c = λ book n w. opening_shown n w (g.B.JobBook.value book)

pub returns-clause-claim : goal.returns-clause-claim
returns-clause-claim g c = λ book n w s i v h at. claim_shown _ (g.B.JobBook.value book) s h i v at

pub returns-clause-claim_answer : goal.returns-clause-claim_answer
returns-clause-claim_answer g c = λ book n w s i v h at. claim_answered _ (g.B.JobBook.value book) s h i v at

pub returns-clause-raise : goal.returns-clause-raise
returns-clause-raise g c = λ book n w s i v j h at lt more learned. raise_shown _ (g.B.JobBook.value book) s h j 1 lt (λ e. omega arith) i v at more learned

pub returns-clause-borrow : goal.returns-clause-borrow
returns-clause-borrow g c = λ book n w s i v j h at lt one. lent_shown _ (g.B.JobBook.value book) s h j 2 lt (λ e. omega arith) i v _ at refl (λ z. omega arith)

pub returns-clause-give_back : goal.returns-clause-give_back
returns-clause-give_back g c = λ book n w s i v j h at lt two. (lent_shown _ (g.B.JobBook.value book) s h j 1 lt (λ e. omega arith) i v _ at refl (λ z. omega arith)).1

pub returns-clause-split : goal.returns-clause-split
returns-clause-split g c = λ book n w s i v h at. split_shown _ (g.B.JobBook.value book) s h i v at

pub returns-clause-join : goal.returns-clause-join
returns-clause-join g c = λ book n w s i v m u h at there. join_shown _ (g.B.JobBook.value book) s h i m v u at there
