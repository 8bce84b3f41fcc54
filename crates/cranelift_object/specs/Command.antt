-- The call that a command stands for.
use Rattle.std.specs.Prelude.{string_bytes}
use Rattle.cranelift_module.specs.Call.{Call, declare_function, declare_anonymous_function, declare_data, declare_anonymous_data, define_function, define_data}
use Rattle.cranelift_object.specs.declared.command.Command.{Command}
use Rattle.cranelift_object.specs.declared.command.Command.TheVariants as commands

abbrev pub command_view : Command → Call
command_view (commands.DeclareFunction name linkage signature) = declare_function (string_bytes name) linkage signature
command_view (commands.DeclareAnonymousFunction signature) = declare_anonymous_function signature
command_view (commands.DeclareData name linkage writable tls) = declare_data (string_bytes name) linkage writable tls
command_view (commands.DeclareAnonymousData writable tls) = declare_anonymous_data writable tls
command_view (commands.DefineFunction id align bytes relocs) = define_function id align bytes.items relocs.items
command_view (commands.DefineData id desc) = define_data id desc
