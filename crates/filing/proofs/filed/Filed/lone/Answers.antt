use Rattle.std.proofs.Common.{◌≡◌, [], ◌∷◌, refl, ap}
use Rattle.filing.specs.Accepted.{contents_of, meaning_in}
use Rattle.filing.specs.Contents.{records_from, header_at, contents}
use Rattle.filing.specs.Format.{entry_at}
use Rattle.filing.proofs.filed.Filed.lone.Goals as goal

pub new-requires : goal.new-requires
unfolding records_from header_at contents entry_at
new-requires g c = refl

pub returns : goal.returns
unfolding records_from header_at contents entry_at
returns g c =
    let r = c.new.result in
    let same : contents_of g.L.Label.WIDTH g.L.Label.read r.bytes.now r.begin ≡ contents_of g.L.Label.WIDTH g.L.Label.read (83 ∷ 89 ∷ 1 ∷ 1 ∷ 0 ∷ 0 ∷ []) 0 = cc in
    ap (meaning_in g.L.Label.plain) same
