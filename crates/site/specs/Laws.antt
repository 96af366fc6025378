-- What follows from a site's promise, shown in proofs/Laws.antt. Definitions only: each name is a statement.
--
--     SiteJoined    answer by answer is the same as all answers joined in order, then the untouched rest
use Rattle.std.specs.Prelude.{◌≡◌, ◌↔◌, List, ℕ}
use Rattle.site.specs.Site.{site_refusal, Sited, Joined}

abbrev pub SiteJoined : Type 0
SiteJoined =
    (tasks slots reply after : List ℕ)
    → site_refusal tasks slots reply ≡ 0 → Sited tasks slots reply 0 after ↔ Joined tasks slots reply after
