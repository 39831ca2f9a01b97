-- A legal history is known from its passes, calls, replies and states: its marks are those that are told from the front.
use Rattle.vx_call.proofs.Legal.{legal_front}
use Rattle.std.proofs.Common.{◌≡◌, List, [], ◌∷◌, ◌++◌, refl, ap, sym, ◌∙◌}
use Rattle.std.proofs.lemmas.Grind.{fold-append}
use Rattle.vx_call.specs.declared.history.Traced.{Traced}
use Rattle.vx_call.specs.Marks.{telling, told, plain_of, plains}
use Rattle.vx_call.specs.Machine.{IsLegal}
use Rattle.vx_call.proofs.Each.{by_entries}

plains-append : (history : List Traced) (new : Traced) → plains (history ++ new ∷ []) ≡ plains history ++ plain_of new ∷ []
plains-append [] new = refl
plains-append (first ∷ others) new = ap (λ xs. plain_of first ∷ xs) (plains-append others new)

pub told_legal : (history : List Traced) → IsLegal history → told (plains history) ≡ history
told_legal =
    by_entries (λ history. IsLegal history → told (plains history) ≡ history) (λ legal. refl)
    (λ history new known legal.
    let it : Traced → List Traced = λ last. history ++ last ∷ [] in
    let marks = (legal history new [] refl).mark in
    ap told (plains-append history new)
    ∙ fold-append telling [] (plains history) (plain_of new ∷ [])
    ∙ ap (λ before. telling before (plain_of new)) (known (legal_front history (new ∷ []) legal))
    ∙ ap (λ mark. it (record { entry = new.entry; states = new.states; mark = mark })) (sym marks))

-- two legal histories of the same passes, calls, replies and states are one
pub told_one : (history other : List Traced) → IsLegal history → IsLegal other → plains history ≡ plains other → history ≡ other
told_one history other legal lawful same = sym (told_legal history legal) ∙ ap told same ∙ told_legal other lawful
