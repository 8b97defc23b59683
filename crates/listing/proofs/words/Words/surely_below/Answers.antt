-- The first word that differs decides. Windows overlap, which changes nothing: what is shared is equal. Nothing is
-- below the word of a
-- window that does not fit.
use Rattle.std.proofs.Common.{sym, ◌∙◌, arith}
use borrow.Author.Tests.{ltb-true}
use Rattle.listing.proofs.Eights.{by_first, by_second, by_third, by_fourth}
use Rattle.listing.proofs.words.Words.surely_below.Goals as goal

pub returns-then-low-self : goal.returns-then-low-self
returns-then-low-self c =
    λ e q o. by_first c.args.p.now q c.args.self o c.requires (λ n. omega (arith, c.type_inv.p n))
    (omega (arith, c.eight.ensures, ltb-true _ _ e))

pub returns-then-low-self-2 : goal.returns-then-low-self-2
returns-then-low-self-2 c =
    λ e q o. by_second c.args.p.now q c.args.self o c.requires (λ n. omega (arith, c.type_inv.p n))
    (sym c.low.ensures ∙ c.if-low-self.false) (omega (arith, c.eight-then-low-self-2.ensures, ltb-true _ _ e))

pub returns-then-a-self : goal.returns-then-a-self
returns-then-a-self c =
    λ e q o. by_third c.args.p.now q c.args.self o c.requires (λ n. omega (arith, c.type_inv.p n))
    (sym c.low.ensures ∙ c.if-low-self.false) (sym c.low-else-low-self.ensures ∙ c.if-low-self-2.false)
    (omega (arith, c.eight-a.ensures, ltb-true _ _ e))

pub returns-then-a-self-2 : goal.returns-then-a-self-2
returns-then-a-self-2 c =
    λ e q o. by_fourth c.args.p.now q c.args.self o c.requires (λ n. omega (arith, c.type_inv.p n))
    (sym c.low.ensures ∙ c.if-low-self.false) (sym c.low-else-low-self.ensures ∙ c.if-low-self-2.false)
    (sym c.eight-a.ensures ∙ c.if-a-self-2.true) (omega (arith, c.eight-then-a-self-2.ensures, ltb-true _ _ e))
