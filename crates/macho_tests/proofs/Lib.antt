pub mod FormedObjects
