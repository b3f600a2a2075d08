mod Finding
mod Printed
mod Judging
mod Values
mod Running
mod Exactly
mod Examples
