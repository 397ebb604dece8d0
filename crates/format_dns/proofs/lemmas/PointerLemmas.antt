-- Pointers that are followed one after the other.
use Rattle.std.proofs.Common.{ℕ, ◌<◌, List, [], ◌∷◌, ◌++◌, sym, subst, refl, append-nil}
use Rattle.winnow_codec.proofs.lemmas.Lists.{each-more}
use Rattle.format_dns.specs.Names.{SpellsLabels}
use Rattle.format_dns.specs.Pointers.{NameAt, Leads, SpellsChain, Reaches, IsWhyNot, AppendsName, IsWhyNone}
use Rattle.format_dns.specs.declared.expansion.Unexpanded.{Unexpanded}
use Rattle.format_dns.specs.declared.expansion.Unexpanded.TheVariants as why
use Rattle.format_dns.specs.declared.name.Ending.{Ending}
use Rattle.format_dns.specs.declared.name.Ending.TheVariants.{Root, Pointer}
use Rattle.format_dns.specs.declared.name.Name.{Name}

-- one name more
leads-on : (message : List ℕ) (limit : ℕ) (e : Ending) (ns : List Name) (p place : ℕ) (n : Name)
    → Leads message limit e ns (Pointer p) place → p < place → NameAt message p n
    → Leads message limit e (ns ++ n ∷ []) n.ending p
leads-on message limit e [] p place n (same, at) back stands =
    subst (λ x. Leads message limit x (n ∷ []) n.ending p) same (subst (λ y. p < y) at back, stands, (refl, refl))
leads-on message limit Root (m ∷ ns) p place n leads back stands = absurd leads
leads-on message limit (Pointer q) (m ∷ ns) p place n (less, here, more) back stands =
    (less, here, leads-on message q m.ending ns p place n more back stands)

-- the name alone
pub begins : (message : List ℕ) (name : Name) (text : List ℕ) → SpellsLabels name.labels.items text
    → Reaches message name name.ending 16384 text
begins message name text h = record {
  names = [];
  leads = (refl, refl);
  spelled = (text, [], (h, refl, sym (append-nil text)));
}

-- one pointer more is followed
pub reaches-on : (message : List ℕ) (name : Name) (p place : ℕ) (old new : List ℕ) (n : Name)
    → Reaches message name (Pointer p) place old → p < place → AppendsName message p old n new
    → Reaches message name n.ending p new
reaches-on message name p place old new n r back (stands, (text, (h, e))) = record {
  names = r.names ++ n ∷ [];
  leads = leads-on message 16384 name.ending r.names p place n r.leads back stands;
  spelled = subst (SpellsChain (name ∷ (r.names ++ n ∷ []))) (sym e) (each-more (λ m. SpellsLabels m.labels.items) (name ∷ r.names) n old text r.spelled h);
}

-- why the next name is not appended is why the name is not expanded
pub why-none : (message : List ℕ) (name : Name) (place limit : ℕ) (text : List ℕ) (u : Unexpanded)
    → Reaches message name (Pointer place) limit text → place < limit → IsWhyNone message place u
    → IsWhyNot message name u
why-none message name place limit text (why.NoName p) r back (same, none) = (
  limit,
  (
    text,
    (
      subst (λ q. Reaches message name (Pointer q) limit text) (sym same) r,
      subst (λ q. q < limit) (sym same) back,
      λ n stands. none n (subst (λ q. NameAt message q n) same stands),
    ),
  ),
)
why-none message name place limit text (why.NotBack p) r back none = absurd none
why-none message name place limit text why.TooLong r back none = absurd none
why-none message name place limit text why.Unspelled r back none = absurd none
why-none message name place limit text (why.Refused e) r back none = tt
