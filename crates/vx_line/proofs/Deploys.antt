-- A line that deploys, from its parts.
use Rattle.std.proofs.Common.{◌≡◌, ℕ, ℤ, List, Bool, true, false, cond, map, is_some, unwrap_or, refl, Option, Some, None}
use Rattle.vx_data.specs.declared.ids.ContextId.{ContextId}
use Rattle.vx_line.specs.declared.instruction.Instruction.TheVariants as does
use Rattle.vx_words.specs.Grammar.{AKnown, AText, AtMost}
use Rattle.vx_words.specs.Reading.{token_at, end_at}
use Rattle.vx_line.specs.Grammar.{name_of, deploy_options, tell_option, worker_option, pool_option, to_option, config_option, is_kind, max_instances, deploy_form}
use Rattle.vx_line.specs.Reading.{options_of, behind_options, choice_in, options_at, form_at}

-- what says that workers are asked for
abbrev pub flag : Bool → Option (Unit {0})
flag worker = cond worker (Some tt) None

flag_is : (worker : Bool) → is_some (flag worker) ≡ worker
flag_is true = refl
flag_is false = refl

pub options_made : (tail rest : List ℕ) (tell : Option ContextId) (worker : Option (Unit {0})) (pool to : Option (List ℕ)) (config : List ℤ) → behind_options (map name_of deploy_options) tail ≡ Some rest → choice_in tell_option (options_of tail).words ≡ Some tell →
    choice_in worker_option (options_of tail).words ≡ Some worker → choice_in pool_option (options_of tail).words ≡ Some pool → choice_in to_option (options_of tail).words ≡ Some to → choice_in config_option (options_of tail).words ≡ Some config →
    options_at deploy_options tail ≡ Some ((tell, (worker, (pool, (to, (config, tt))))), rest)
options_made tail rest tell worker pool to config behind a b c d e = rw behind (rw a (rw b (rw c (rw d (rw e refl)))))

pub deploy_made : (tail rest behind_kind behind_address behind_count : List ℕ) (tell : Option ContextId) (worker : Bool) (pool to : Option (List ℕ)) (config : List ℤ) (kind address chosen : List ℕ) (instances : ℕ) →
    options_at deploy_options tail ≡ Some ((tell, (flag worker, (pool, (to, (config, tt))))), rest) → token_at (AKnown is_kind) rest ≡ Some (kind, behind_kind) → token_at AText behind_kind ≡ Some (address, behind_address) →
    token_at (AtMost max_instances) behind_address ≡ Some (instances, behind_count) → end_at behind_count ≡ Some tt → chosen ≡ unwrap_or to address →
    form_at deploy_form tail ≡ Some (does.Deploy (record { worker = worker; pool = pool; tell = tell }) (record { kind = kind; address = address; to = chosen; config = config }) instances)
deploy_made tail rest behind_kind behind_address behind_count tell worker pool to config kind address chosen instances a b c d e to_is =
    rw a (rw b (rw c (rw d (rw e (rw (flag_is worker, to_is) refl)))))
