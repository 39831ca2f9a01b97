-- What bytes are as a file.
use Rattle.std.proofs.Common.{◌≡◌, refl, sym, ap, ◌∙◌, ℕ, ◌<◌, ◌≤◌, List, length, Ok, Err, arith}
use mathlib.Core.Path.{subst}
use Rattle.vx_data.specs.Tree.{Tree, object, Members}
use Rattle.vx_deployfile.specs.declared.fault.FileRefused.{FileRefused}
use Rattle.vx_deployfile.specs.declared.fault.FileRefused.TheVariants.{BadFile, NoMemory}
use Rattle.vx_deployfile.specs.declared.fault.FileWhy.TheVariants.{TooLong, NotJson}
use Rattle.vx_deployfile.specs.declared.fault.Place.TheVariants.{File}
use Rattle.vx_deployfile.specs.declared.file.DeployFile.{DeployFile}
use Rattle.vx_deployfile.specs.Fields.{misfit, object_in}
use Rattle.vx_deployfile.specs.Files.{file_of, settled_file, max_file_bytes, ReadsAs, too_long, no_object, an_object, IfTold, unread}
use Rattle.vx_deployfile.specs.Outlines.{cut_members}
use Rattle.vx_deployfile.specs.Verdicts.{Verdict, Gives, Fails}
use Rattle.vx_deployfile.proofs.Cuts.{file_cut}
use Rattle.vx_json.specs.declared.fault.JsonFault.{JsonFault}
use Rattle.vx_json.specs.declared.fault.JsonFault.TheVariants as faults
use Rattle.vx_json.specs.Grammar.{IsJson}

-- ---- what is told

told_by : (Says : Verdict DeployFile → Type 0) (result verdict : Verdict DeployFile) → Gives (λ file. file) result verdict → Says verdict → IfTold Says result
told_by Says (Ok file) verdict is says = subst Says is says
told_by Says (Err (BadFile place why)) verdict is says = subst Says is says
told_by Says (Err NoMemory) verdict is says = tt

-- ---- bytes that are too many

pub long_found : (bytes : List ℕ) → max_file_bytes < length bytes → ReadsAs bytes (Err (misfit File TooLong))
long_found bytes long = too_long long refl

pub long_only : (bytes : List ℕ) → max_file_bytes < length bytes → (verdict : Verdict DeployFile) → ReadsAs bytes verdict → Err (misfit File TooLong) ≡ verdict
long_only bytes long verdict (too_long more is) = sym is
long_only bytes long verdict (no_object small none is) = absurd (omega arith)
long_only bytes long verdict (an_object small fields json is) = absurd (omega arith)

-- ---- bytes that are no object

memory_is_not_bad : faults.BadJson ≡ faults.NoMemory → ⊥
memory_is_not_bad h = cc

memory_is_not_deep : faults.Deep ≡ faults.NoMemory → ⊥
memory_is_not_deep h = cc

pub unread_found : (bytes : List ℕ) (fault : JsonFault) → length bytes ≤ max_file_bytes → ((fields : Members) → IsJson (object fields) bytes → fault ≡ faults.NoMemory) → IfTold (ReadsAs bytes) (Err (unread fault))
unread_found bytes faults.BadJson small only = no_object small (λ fields json. memory_is_not_bad (only fields json)) refl
unread_found bytes faults.Deep small only = no_object small (λ fields json. memory_is_not_deep (only fields json)) refl
unread_found bytes faults.NoMemory small only = tt

unread_so : (bytes : List ℕ) → length bytes ≤ max_file_bytes → ((fields : Members) → IsJson (object fields) bytes → ⊥) → (verdict : Verdict DeployFile) → ReadsAs bytes verdict → Err (misfit File NotJson) ≡ verdict
unread_so bytes small none verdict (too_long long is) = absurd (omega arith)
unread_so bytes small none verdict (no_object little no_fields is) = sym is
unread_so bytes small none verdict (an_object little fields json is) = absurd (none fields json)

pub unread_only : (bytes : List ℕ) (fault : JsonFault) → length bytes ≤ max_file_bytes → ((fields : Members) → IsJson (object fields) bytes → fault ≡ faults.NoMemory)
    → (verdict : Verdict DeployFile) → ReadsAs bytes verdict → IfTold (λ told. told ≡ verdict) (Err (unread fault))
unread_only bytes faults.BadJson small only verdict reads = unread_so bytes small (λ fields json. memory_is_not_bad (only fields json)) verdict reads
unread_only bytes faults.Deep small only verdict reads = unread_so bytes small (λ fields json. memory_is_not_deep (only fields json)) verdict reads
unread_only bytes faults.NoMemory small only verdict reads = tt

-- ---- bytes that are an object

pub object_found : (bytes : List ℕ) (result : Verdict DeployFile) (fields : Members) → length bytes ≤ max_file_bytes → IsJson (object fields) bytes → Gives (λ file. file) result (settled_file fields) → IfTold (ReadsAs bytes) result
object_found bytes result fields small json gives = told_by (ReadsAs bytes) result (settled_file fields) gives (an_object small fields json refl)

pub object_only : (bytes : List ℕ) (result : Verdict DeployFile) (fields : Members) → length bytes ≤ max_file_bytes → IsJson (object fields) bytes → ((others : Members) → IsJson (object others) bytes → Gives (λ file. file) result (settled_file others))
    → (verdict : Verdict DeployFile) → ReadsAs bytes verdict → IfTold (λ told. told ≡ verdict) result
object_only bytes result fields small json gives verdict (too_long long is) = absurd (omega arith)
object_only bytes result fields small json gives verdict (no_object little none is) = absurd (none fields json)
object_only bytes result fields small json gives verdict (an_object little others here is) = told_by (λ told. told ≡ verdict) result (settled_file others) (gives others here) (sym is)

-- ---- from the outline

-- the members of an outline
members_in : (body : Tree) (ms : Members) → body ≡ object (cut_members 3 ms) → object_in File body ≡ Ok (cut_members 3 ms)
members_in body ms is = ap (object_in File) is

pub no_other_shape : (body : Tree) (ms : Members) (fault : FileRefused) (whole : Verdict DeployFile) → body ≡ object (cut_members 3 ms) → Fails fault (object_in File body) → Fails fault whole
no_other_shape body ms (BadFile place why) whole is fails = let clash : Ok (cut_members 3 ms) ≡ Err (BadFile place why) = sym (members_in body ms is) ∙ fails in absurd (cc)
no_other_shape body ms NoMemory whole is fails = tt

same_ok : (ms ns : Members) (v w : Verdict Members) → v ≡ Ok ms → w ≡ Ok ns → v ≡ w → ms ≡ ns
same_ok ms ns v w hv hw h = cc

-- what is read of them is the file
pub from_outline : (body : Tree) (ms found : Members) (result : Verdict DeployFile) → body ≡ object (cut_members 3 ms) → object_in File body ≡ Ok found → Gives (λ file. file) result (file_of found) → Gives (λ file. file) result (file_of ms)
from_outline body ms found result is read gives =
    let same : found ≡ cut_members 3 ms = same_ok found (cut_members 3 ms) (object_in File body) (object_in File body) read (members_in body ms is) refl in
    subst (Gives (λ file. file) result) (ap file_of same ∙ file_cut ms) gives
