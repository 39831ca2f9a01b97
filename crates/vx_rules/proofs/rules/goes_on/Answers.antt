use Rattle.std.proofs.Common.{◌∷◌, [], arith}
use Rattle.vx_rules.proofs.Limits.{header_bytes_joined}
use Rattle.vx_rules.proofs.rules.goes_on.Goals as goal

pub add_header-requires : goal.add_header-requires
add_header-requires c = rw c.in-Add.is at c.requires

pub returns-in_ok-add_header-in-Add-clause-bytes : goal.returns-in_ok-add_header-in-Add-clause-bytes
returns-in_ok-add_header-in-Add-clause-bytes c =
    rw (c.in_ok-add_header-in-Add.ensures.added, c.in-Add.is) (omega (arith, header_bytes_joined c.args.headers.now ((c.in-Add.name, c.in-Add.value) ∷ [])))
