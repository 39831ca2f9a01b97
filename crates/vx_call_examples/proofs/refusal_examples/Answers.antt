use Rattle.std.proofs.Common.{◌≡◌, List, length, refl, ap}
use Rattle.std.specs.Prelude.{true, nat_lt, cond, codes, [], Some, None}
use Rattle.std.specs.Option.{option_or}
use Rattle.std.specs.Fmt.{digits}
use Rattle.vx_data.specs.BodyText.{body_text, escaped}
use Rattle.vx_data.specs.Tree.{Tree}
use Rattle.vx_call.specs.declared.call.Call.TheVariants as calls
use Rattle.vx_call.specs.declared.reply.Refusal.TheVariants as refusals
use Rattle.vx_call.specs.declared.reply.Reply.TheVariants as replies
use Rattle.vx_call.specs.declared.reply.To.TheVariants as reached
use Rattle.vx_call.specs.declared.history.Traced.{Traced}
use Rattle.vx_call.specs.History.{lasting}
use Rattle.vx_call.specs.Refusals.{over, unless_refused, shut, too_large, bad_delay, late}
use Rattle.vx_call.specs.Rows.{destination}
use Rattle.vx_call.specs.Runs.{history_by}
use Rattle.vx_call.specs.Machine.{row}
use Rattle.vx_data.specs.Bodies.{tree_depth}
use Rattle.vx_call_examples.specs.Forms.{context, message, plain}
use Rattle.vx_call_examples.specs.Refused.{answering}
use Rattle.vx_call_examples.proofs.refusal_examples.Goals as goal

pub returns-clause-consumers_refused : goal.returns-clause-consumers_refused
unfolding lasting digits escaped
returns-clause-consumers_refused c = refl

pub returns-clause-messages_refused : goal.returns-clause-messages_refused
unfolding lasting digits escaped
returns-clause-messages_refused c = refl

pub returns-clause-requests_refused : goal.returns-clause-requests_refused
unfolding lasting digits escaped
returns-clause-requests_refused c = refl

pub returns-clause-replies_refused : goal.returns-clause-replies_refused
unfolding lasting digits escaped
returns-clause-replies_refused c = refl

pub returns-clause-failures_refused : goal.returns-clause-failures_refused
unfolding lasting digits escaped
returns-clause-failures_refused c = refl

pub returns-clause-asking_again_refused : goal.returns-clause-asking_again_refused
unfolding lasting digits escaped
returns-clause-asking_again_refused c = refl

pub returns-clause-timers_refused : goal.returns-clause-timers_refused
unfolding lasting digits escaped
returns-clause-timers_refused c = refl

pub returns-clause-codecs_and_rules_refused : goal.returns-clause-codecs_and_rules_refused
unfolding lasting digits escaped
returns-clause-codecs_and_rules_refused c = refl

pub returns-clause-deployments_refused : goal.returns-clause-deployments_refused
unfolding lasting digits escaped
returns-clause-deployments_refused c = refl

pub returns-clause-lanes_refused : goal.returns-clause-lanes_refused
unfolding lasting digits escaped
returns-clause-lanes_refused c = refl

pub returns-clause-connections_refused : goal.returns-clause-connections_refused
unfolding lasting digits escaped
returns-clause-connections_refused c = refl

pub returns-clause-one_codec_more : goal.returns-clause-one_codec_more
unfolding lasting digits escaped
returns-clause-one_codec_more c = refl

pub returns-clause-one_rule_more : goal.returns-clause-one_rule_more
unfolding lasting digits escaped
returns-clause-one_rule_more c = refl

pub returns-clause-one_pool_more : goal.returns-clause-one_pool_more
unfolding lasting digits escaped
returns-clause-one_pool_more c = refl

pub returns-clause-large_body : goal.returns-clause-large_body
unfolding lasting
returns-clause-large_body c = λ body large.
    ap (λ b. unless_refused (option_or (cond b (Some (refusals.TooLarge 1048576)) None) (option_or (over 100 (tree_depth body)) None)) (replies.Sent (destination [] (calls.Send (codes "a") body plain) (codes "a")))) large

pub returns-clause-spent : goal.returns-clause-spent
returns-clause-spent c = λ history pass call full. ap (λ b. unless_refused (option_or (cond b (Some refusals.Spent) None) (shut history call)) (row history pass call)) full

pub returns-clause-large_published : goal.returns-clause-large_published
unfolding lasting
returns-clause-large_published c = λ body large. rw large refl

-- a body whose text is too long
long_body : (body : Tree) → nat_lt 1048576 (length (body_text body)) ≡ true → too_large body plain ≡ Some (refusals.TooLarge 1048576)
long_body body large = rw large refl

abbrev answered : List Traced
answered = history_by [] answering

pub returns-clause-large_asked : goal.returns-clause-large_asked
unfolding lasting digits
returns-clause-large_asked c = λ body large.
    ap (λ o. unless_refused (option_or o (bad_delay 0)) (replies.Asked (destination answered (calls.Request (context 0) (codes "a") body plain 0 None) (codes "a")))) (long_body body large)

pub returns-clause-large_reply : goal.returns-clause-large_reply
unfolding lasting digits
returns-clause-large_reply c = λ body large. ap (λ o. unless_refused (option_or o (late answered (message 5))) replies.Done) (long_body body large)

pub returns-clause-large_asking_again : goal.returns-clause-large_asking_again
unfolding lasting digits
returns-clause-large_asking_again c = λ body large. ap (λ o. unless_refused (option_or o (option_or (bad_delay 0) (late answered (message 5)))) (replies.Asked reached.Asker)) (long_body body large)
