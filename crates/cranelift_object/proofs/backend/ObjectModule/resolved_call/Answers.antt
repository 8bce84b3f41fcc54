use Rattle.std.proofs.Common.{◌≡◌, Some, sym, ◌∙◌, ap, subst}
use Rattle.std.specs.Prelude.{slice_get, bytes_eq}
use Rattle.std.specs.List.{position_or_len}
use Rattle.cranelift_module.specs.Declarations.{DeclarationLists}
use Rattle.cranelift_module.specs.LibraryNames.{library_place}
use Rattle.cranelift_object.specs.Opened.{OpenModule}
use Rattle.cranelift_object.proofs.TextLaws.{call_faithful, call_target}
use Rattle.cranelift_object.proofs.backend.ObjectModule.resolved_call.Goals as goal

abbrev lists_of : OpenModule → DeclarationLists
lists_of o = record { functions = o.state.functions; objects = o.state.objects }

pub returns-in-None-clause-target : goal.returns-in-None-clause-target
returns-in-None-clause-target c =
    let at = subst (λ (o : OpenModule). slice_get o.settings.library_names (library_place c.args.call) ≡ Some c.library_text-text.result.now) c.self.view_is c.library_text-text.ensures in
    let place = subst (λ (o : OpenModule). c.place_of_text.result ≡ position_or_len (bytes_eq c.library_text-text.result.now) o.settings.library_names) c.self.view_is c.place_of_text.ensures in
    call_target c.args.self.now.settings c.args.self.now.state c.args.call c.library_text-text.result.now c.place_of_text.result c.self.inside.declarations at place (ap lists_of c.self.view_is) (sym c.get_name.ensures ∙ c.in-None.is)

pub returns-in-None-clause-faithful : goal.returns-in-None-clause-faithful
returns-in-None-clause-faithful c =
    let at = subst (λ (o : OpenModule). slice_get o.settings.library_names (library_place c.args.call) ≡ Some c.library_text-text.result.now) c.self.view_is c.library_text-text.ensures in
    let place = subst (λ (o : OpenModule). c.place_of_text.result ≡ position_or_len (bytes_eq c.library_text-text.result.now) o.settings.library_names) c.self.view_is c.place_of_text.ensures in
    call_faithful c.args.self.now.settings c.args.call c.library_text-text.result.now c.place_of_text.result at place
