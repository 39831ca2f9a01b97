use Rattle.std.proofs.Common.{refl}
use Rattle.std.specs.Fmt.{digits}
use Rattle.vx_data.specs.BodyText.{escaped}
use Rattle.vx_call.specs.History.{lasting}
use Rattle.vx_call_examples.proofs.promise_examples.Goals as goal

pub returns-clause-both : goal.returns-clause-both
unfolding lasting digits escaped
returns-clause-both c = refl

pub returns-clause-shared_server : goal.returns-clause-shared_server
unfolding lasting digits escaped
returns-clause-shared_server c = refl

pub returns-clause-with_failures : goal.returns-clause-with_failures
unfolding lasting digits escaped
returns-clause-with_failures c = refl

pub returns-clause-of_composites : goal.returns-clause-of_composites
unfolding lasting digits escaped
returns-clause-of_composites c = refl

pub returns-clause-settled_before : goal.returns-clause-settled_before
unfolding lasting digits escaped
returns-clause-settled_before c = refl

pub returns-clause-closes_with_it : goal.returns-clause-closes_with_it
unfolding lasting digits escaped
returns-clause-closes_with_it c = refl

pub returns-clause-misfit_promises : goal.returns-clause-misfit_promises
unfolding lasting digits escaped
returns-clause-misfit_promises c = refl

pub returns-clause-joined : goal.returns-clause-joined
unfolding lasting digits escaped
returns-clause-joined c = refl
